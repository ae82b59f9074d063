use Rattle.std.proofs.Common.{◌≡◌, ◌<◌, ◌≤◌, ◌+◌, ℕ, List, [], length, false}
use Rattle.vh_graph.specs.Paths.{AreLinked}
use Rattle.vh_graph.proofs.Searching.{IsSearching, is_unseen, place}
use Rattle.vh_graph.proofs.Work.{unseen_work}
use Rattle.vh_graph.proofs.search.least_on_cycle.Given as goal

-- the search goes on, and so many nodes were seen
abbrev pub invariant-loop-node : goal.invariant-loop-node
invariant-loop-node l = (length l.search.places.items ≡ length l.sources) × (l.search.parts.items ≡ []) × ((x : ℕ) → x < l.node → is_unseen (place l.search.places.items x) ≡ false)
    × ((wires : List (ℕ × ℕ)) → AreLinked wires l.sources → IsSearching wires l.search.places.items l.search.path.items l.search.parts.items l.search.unread.items [])

abbrev pub invariant-loop-part : goal.invariant-loop-part
invariant-loop-part l = (length l.search.places.items ≡ length l.sources) × ((x : ℕ) → x ≤ l.node → is_unseen (place l.search.places.items x) ≡ false)
    × ((wires : List (ℕ × ℕ)) → AreLinked wires l.sources → IsSearching wires l.search.places.items l.search.path.items l.search.parts.items l.search.unread.items [])

abbrev pub decreases-loop-part : goal.decreases-loop-part
decreases-loop-part l = unseen_work l.search.places.items l.sources + length l.search.unread.items + length l.search.parts.items

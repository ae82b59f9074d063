use Rattle.std.proofs.Common.{◌≡◌, ◌≤◌, ◌<◌, ℕ, take, length, get_or}
use Rattle.vh_graph.specs.declared.search.Part.{Part}
use Rattle.vh_graph.proofs.search.join.Given as goal

abbrev pub invariant-loop-part : goal.invariant-loop-part
invariant-loop-part l = (n : ℕ) × (n ≤ length l.fn.parts.items) × (l.parts.items ≡ take n l.fn.parts.items) × ((k : ℕ) (d : Part) → n ≤ k → k < length l.fn.parts.items → l.place < (get_or l.fn.parts.items k d).node)

abbrev pub decreases-loop-part : goal.decreases-loop-part
decreases-loop-part l = length l.parts.items

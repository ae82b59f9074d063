use Rattle.std.proofs.Common.{length, ◌-◌, ◌≤◌, ◌<◌, ℕ, slice_index_or}
use Rattle.vh_journal.specs.declared.entry.Entry.{Entry as Stored}
use Rattle.vh_render.proofs.write.place_of.Given as goal

abbrev pub invariant-loop-place : goal.invariant-loop-place
invariant-loop-place l =
    (l.from ≤ l.place) × (l.place ≤ length l.entries) × ((i : ℕ) (d : Stored) → i < l.place → (slice_index_or l.entries i d).sample < l.sample)

abbrev pub decreases-loop-place : goal.decreases-loop-place
decreases-loop-place l = length l.entries - l.place

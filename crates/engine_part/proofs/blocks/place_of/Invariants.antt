use Rattle.std.proofs.Common.{◌≤◌, ◌-◌, length}
use Rattle.engine_part.proofs.blocks.place_of.Given as goal

abbrev pub invariant-loop-place : goal.invariant-loop-place
invariant-loop-place l = (l.first ≤ l.place) × (l.place ≤ length l.entries)

abbrev pub decreases-loop-place : goal.decreases-loop-place
decreases-loop-place l = length l.entries - l.place

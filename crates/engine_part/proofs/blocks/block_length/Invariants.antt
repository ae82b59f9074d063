use Rattle.std.proofs.Common.{◌≤◌, ◌+◌}
use Rattle.engine_part.proofs.blocks.block_length.Given as goal

abbrev pub invariant-loop-entry : goal.invariant-loop-entry
invariant-loop-entry l = (1 ≤ l.n) × (l.n ≤ l.size) × (l.at + l.n ≤ l.frames)

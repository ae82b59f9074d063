use Rattle.std.proofs.Common.{◌≤◌, length}
use Rattle.vh_files.proofs.disk.write_on.Given as goal

abbrev pub invariant-loop : goal.invariant-loop
invariant-loop g l = l.done ≤ length l.bytes

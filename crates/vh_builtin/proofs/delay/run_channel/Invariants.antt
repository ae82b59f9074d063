use Rattle.std.proofs.Common.{◌≡◌, ◌≤◌, ◌+◌, ◌-◌, ◌%◌, length}
use Rattle.vh_builtin.specs.Rings.{history, IsEcho}
use Rattle.vh_builtin.proofs.delay.run_channel.Given as goal

abbrev pub invariant-loop-from : goal.invariant-loop-from
invariant-loop-from l =
    IsEcho l.time l.mix l.feedback (history l.fn.ring l.at) l.main l.from (history l.ring l.write) l.out
    × (l.write ≡ (l.at + l.from) % 4096) × (l.from ≤ length l.main)

abbrev pub decreases-loop-from : goal.decreases-loop-from
decreases-loop-from l = length l.main - l.from

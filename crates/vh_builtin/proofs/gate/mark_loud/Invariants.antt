use Rattle.std.proofs.Common.{◌≡◌, length}
use Rattle.vh_builtin.specs.Marks.{loud_at, AreMarked}
use Rattle.vh_builtin.proofs.gate.mark_loud.Given as goal

abbrev pub invariant-loop-i : goal.invariant-loop-i
invariant-loop-i l = (length l.marks ≡ length l.initial.marks) × AreMarked (loud_at l.threshold l.key l.key_right) 0 l.i l.marks

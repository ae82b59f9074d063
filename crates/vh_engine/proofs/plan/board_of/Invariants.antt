use Rattle.std.proofs.Common.{length}
use Rattle.vh_engine.proofs.Planned.{AreFirsts}
use Rattle.vh_engine.proofs.plan.board_of.Given as goal

abbrev pub invariant-loop-param : goal.invariant-loop-param
invariant-loop-param l = AreFirsts l.lanes l.node l.params l.firsts l.board.items (length l.yielded)

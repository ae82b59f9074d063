use Rattle.vh_builtin.specs.Each.{AreEach}
use Rattle.vh_builtin.specs.Balance.{share_of}
use Rattle.vh_builtin.proofs.balance.lower.Given as goal

abbrev pub invariant-loop-i : goal.invariant-loop-i
invariant-loop-i l = AreEach (share_of l.factor) l.i l.main l.out

use Rattle.vh_builtin.specs.Each.{AreEach}
use Rattle.vh_builtin.specs.Gain.{gain_of}
use Rattle.vh_builtin.proofs.gain.amplify.Given as goal

abbrev pub invariant-loop-i : goal.invariant-loop-i
invariant-loop-i l = AreEach (gain_of l.level) l.i l.main l.out

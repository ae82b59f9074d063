use Rattle.vh_num.proofs.Lanes.{IsSummed}
use Rattle.vh_num.proofs.samples.mix_into.Given as goal

abbrev pub invariant-loop-i : goal.invariant-loop-i
invariant-loop-i l = IsSummed l.acc l.fn.acc l.src l.i

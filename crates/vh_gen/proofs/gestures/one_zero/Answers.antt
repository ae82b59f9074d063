use Rattle.vh_gen.proofs.Touched.{one_zero_is}
use Rattle.vh_gen.proofs.gestures.one_zero.Goals as goal

pub returns : goal.returns
returns c = one_zero_is _ _

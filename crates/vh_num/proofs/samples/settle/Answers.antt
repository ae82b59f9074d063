use Rattle.std.proofs.Common.{arith}
use Rattle.vh_num.specs.Samples.{clamp_of}
use Rattle.vh_num.proofs.Lanes.{map_all}
use Rattle.vh_num.proofs.samples.settle.Goals as goal

pub returns : goal.returns
returns c = map_all clamp_of c.loop-i.out c.args.acc.now _ c.loop-i.invariant (omega arith) (omega arith)

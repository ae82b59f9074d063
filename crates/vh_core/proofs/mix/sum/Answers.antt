use Rattle.std.proofs.Common.{arith}
use Rattle.std.proofs.lemmas.Int.{ints, to_z-of_z}
use Rattle.vh_core.specs.Stage.{frames_in}
use Rattle.vh_core.proofs.Mixed.{share_next}
use Rattle.vh_core.proofs.mix.sum.Goals as goal

pub loop-wire-preserved : goal.loop-wire-preserved
loop-wire-preserved c =
    let next = share_next c.args.input.now (frames_in c.args.frames.now) c.args.to c.args.aux c.args.channel c.args.wires.now c.loop-wire.wire-index _ c.share-sum.result c.loop-wire-test.true c.share-sum.ensures.value in
    record {
      sum = grind (arith, ints, to_z-of_z);
      low = omega (arith, ints);
      high = omega (arith, ints);
    }

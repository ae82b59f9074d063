use Rattle.std.proofs.Common.{◌≡◌, arith, get_or, pos}
use Rattle.std.proofs.lemmas.Int.{ints}
use Rattle.vh_num.proofs.Lanes.{IsSummed_more, added_all}
use Rattle.vh_num.proofs.samples.mix_into.Goals as goal

pub loop-i-preserved : goal.loop-i-preserved
loop-i-preserved c =
    let same : get_or c.loop-i.acc c.loop-i.i (pos 0) ≡ get_or c.args.acc.now c.loop-i.i (pos 0) = c.loop-i.invariant.above c.loop-i.i (omega arith) in
    let room = c.requires.room c.loop-i.i (pos 0) (omega arith) in
    let low = room.low in
    let high = room.high in
    IsSummed_more c.loop-i.acc c.args.acc.now c.args.src.now c.loop-i.i _ (omega arith) c.loop-i.invariant
    (omega (arith, ints))

pub returns : goal.returns
returns c = added_all c.loop-i.acc c.args.acc.now c.args.src.now _ c.loop-i.invariant (omega arith) (omega arith) (omega arith)

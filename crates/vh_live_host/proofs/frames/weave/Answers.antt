use Rattle.std.proofs.Common.{rules, ◌∙◌, ◌<◌, length, arith}
use Rattle.vh_live_host.proofs.Woven.{woven_one}
use Rattle.vh_live_host.proofs.frames.weave.Goals as goal

pub loop-place-preserved : goal.loop-place-preserved
loop-place-preserved c =
    let left = c.args.left.now in
    let right = c.args.right.now in
    let place = c.loop-place.place in
    let inv = c.loop-place.invariant in
    let lt : place < length left = omega arith in
    let also : place < length right = omega (arith, lt, c.requires.both) in
    let was = inv.long in
    let now = c.push_pair.ensures.long in
    let kept = c.push_pair.ensures.capacity in
    let room = inv.room in
    record {
      woven = c.push_pair.ensures.added ∙ woven_one place left right c.loop-place.samples.items _ _ lt also inv.woven (search rules) (search rules);
      long = omega (arith, was, now);
      room = omega (arith, kept, room);
    }

use Rattle.std.proofs.Common.{arith}
use Rattle.vh_plugin.proofs.Stretches.{moving_more, set_within, stands_here}
use Rattle.vh_plugin.proofs.kernel.move_all.Goals as goal

pub move_on-count-requires-clause-stands : goal.move_on-count-requires-clause-stands
move_on-count-requires-clause-stands c = stands_here _ _ c.args.passed.now c.args.values.now c.args.nexts.now c.args.from c.loop-i.i c.loop-i.passed c.loop-i.values c.loop-i.nexts c.loop-i.next c.loop-i.invariant.0 c.requires.stand c.loop-i-test.true

pub loop-i-preserved : goal.loop-i-preserved
loop-i-preserved c =
    let ensures = c.move_on-count.ensures in
    rw c.min-next.ensures (
      moving_more _ _ _ _ _ _ _ _ _ _ _ _ _ _ c.loop-i.invariant.0 c.loop-i-test.true ensures.moved ensures.stands,
      omega (arith, ensures.after, c.loop-i.invariant.1),
      omega (arith, c.loop-i.invariant.2),
      set_within _ c.loop-i.i _ _ c.loop-i.invariant.3 ensures.value,
    )

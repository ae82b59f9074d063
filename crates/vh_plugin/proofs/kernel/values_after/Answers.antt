use Rattle.vh_plugin.proofs.Stretches.{behind_more, set_within}
use Rattle.vh_plugin.proofs.kernel.values_after.Goals as goal

pub loop-i-preserved : goal.loop-i-preserved
loop-i-preserved c = (behind_more _ _ _ _ _ _ c.loop-i.invariant.0 c.loop-i-test.true c.value_after.ensures.value, set_within _ c.loop-i.i _ _ c.loop-i.invariant.1 c.value_after.ensures.within)

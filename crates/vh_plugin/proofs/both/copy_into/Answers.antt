use Rattle.std.proofs.Common.{subst}
use Rattle.vh_params.specs.declared.class.ClassInfo.{ClassInfo}
use Rattle.vh_plugin.specs.Lists.{IsSame}
use Rattle.vh_plugin.proofs.Copies.{copied_more}
use Rattle.vh_plugin.proofs.both.copy_into.Goals as goal

pub loop-class-preserved : goal.loop-class-preserved
loop-class-preserved c =
    rw c.in_ok-push.ensures.items (copied_more _ _ _ _ c.in_ok-info.info c.loop-class.invariant (λ d. subst (λ (info : ClassInfo). IsSame c.in_ok-info.info info) (c.info.ensures d) c.in_ok-info.ensures))

use Rattle.std.proofs.Common.{List, ◌+◌, sym, subst}
use Rattle.vh_params.specs.declared.class.ClassInfo.{ClassInfo}
use Rattle.vh_builtin.specs.Infos.{IsBuiltIn}
use Rattle.vh_builtin.proofs.Names.{AreFirst, first_more}
use Rattle.vh_builtin.proofs.set.BuiltIn.new.Goals as goal

pub loop-number-preserved : goal.loop-number-preserved
loop-number-preserved c =
    subst (λ (infos : List ClassInfo). AreFirst infos (c.loop-number.number + 1)) (sym c.in_ok-push.ensures.items)
    (first_more c.loop-number.list.items c.loop-number.number c.in_ok-info_of.field-0 c.loop-number.invariant
    (subst (λ k. IsBuiltIn k c.in_ok-info_of.field-0) c.of_number.ensures c.in_ok-info_of.ensures))

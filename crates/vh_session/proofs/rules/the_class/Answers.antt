use Rattle.std.proofs.Common.{◌∙◌, ap, sym, Some}
use Rattle.std.specs.Option.{ok_or}
use Rattle.vh_params.specs.ClassList.{classes_of}
use Rattle.vh_session.specs.declared.fault.SessionKind.TheVariants.{UnknownClass}
use Rattle.vh_session.proofs.Named.{first_class, no_class}
use Rattle.vh_session.proofs.rules.the_class.Goals as goal

pub returns-in-Some : goal.returns-in-Some
returns-in-Some c =
    let d = c.info.result.now in
    let found = first_class (classes_of c.args.classes.now) c.args.name.now c.in-Some.class d c.in-Some.ensures.some.0 (c.in-Some.ensures.some.1 d) c.in-Some.ensures.first in
    sym (ap (λ o. ok_or o UnknownClass) (found ∙ ap (λ x. Some x) (sym (c.info.ensures d))))

pub returns-in-None : goal.returns-in-None
returns-in-None c = sym (ap (λ o. ok_or o UnknownClass) (no_class (classes_of c.args.classes.now) c.args.name.now c.in-None.ensures.none))

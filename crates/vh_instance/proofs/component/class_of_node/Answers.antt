use Rattle.std.proofs.Common.{ℕ, ◌<◌, List, length, sym, ap, subst, ◌∙◌}
use Rattle.vh_params.specs.ClassList.{classes_of}
use Rattle.vh_session.specs.Names.{content_of}
use Rattle.vh_instance.specs.Plan.{class_number}
use Rattle.vh_instance.proofs.Classes.{number_within, is_there, number_found}
use Rattle.vh_instance.proofs.component.class_of_node.Goals as goal

pub unwrap-requires : goal.unwrap-requires
unwrap-requires c =
    let infos = classes_of c.args.classes.now in
    let name = c.text.ensures.value ∙ c.class_name.ensures in
    is_there infos c.text.result.now c.find.result (subst (λ (text : List ℕ). class_number infos text < length infos) (sym name) (number_within infos (content_of c.args.session.now) c.requires.stands c.args.node c.requires.node)) c.find.ensures.none

pub returns-clause-number : goal.returns-clause-number
returns-clause-number c =
    let infos = classes_of c.args.classes.now in
    let name = c.text.ensures.value ∙ c.class_name.ensures in
    number_found infos c.text.result.now c.find.result c.unwrap.result c.unwrap.ensures c.find.ensures.some c.find.ensures.first ∙ ap (λ (text : List ℕ). class_number infos text) name

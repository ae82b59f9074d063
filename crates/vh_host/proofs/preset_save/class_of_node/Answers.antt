use Rattle.std.proofs.Common.{◌≡◌, ℕ, ◌<◌, List, length, sym, ap, subst, ◌∙◌, arith}
use Rattle.vh_params.specs.ClassList.{classes_of}
use Rattle.vh_params.specs.Nodes.{nodes_of, node_at}
use Rattle.vh_session.specs.Names.{content_of}
use Rattle.vh_instance.specs.Plan.{class_number}
use Rattle.vh_instance.proofs.Classes.{number_within, is_there, number_found}
use Rattle.vh_host.proofs.Saved.{component_is}
use Rattle.vh_host.proofs.preset_save.class_of_node.Goals as goal

pub unwrap-class-requires : goal.unwrap-class-requires
unwrap-class-requires c =
    let infos = classes_of c.args.classes.now in
    let name = c.text.ensures.value ∙ c.class_name.ensures in
    is_there infos c.text.result.now c.find.result (subst (λ (text : List ℕ). class_number infos text < length infos) (sym name) (number_within infos (content_of c.args.session.now) c.requires.stands c.args.node c.requires.node)) c.find.ensures.none

pub returns : goal.returns
returns c = λ plan infos_are content_are.
    let infos = classes_of c.args.classes.now in
    let content = content_of c.args.session.now in
    let class = c.unwrap-class.result in
    let name = c.text.ensures.value ∙ c.class_name.ensures in
    let number : class ≡ class_number infos (node_at (nodes_of c.args.session.now.nodes) c.args.node).class_name =
    number_found infos c.text.result.now c.find.result class c.unwrap-class.ensures c.find.ensures.some c.find.ensures.first ∙ ap (λ (text : List ℕ). class_number infos text) name in
    let within = number_within infos content c.requires.stands c.args.node c.requires.node in
    component_is plan c.args.node infos content class c.info.result.now infos_are content_are number (omega (arith, number, within)) (c.info.ensures c.info.result.now)

use Rattle.std.proofs.Common.{◌≡◌, ◌∙◌, ℕ, ◌<◌, List, length, ap, arith}
use Rattle.vh_component.specs.declared.states.Processing.{Processing}
use Rattle.vh_component.specs.States.{of_processing}
use Rattle.vh_counted.specs.declared.object.Opened.{Opened}
use Rattle.vh_counted.specs.Held.{value_of_opened}
use Rattle.vh_params.specs.Nodes.{nodes_of}
use Rattle.vh_session.specs.Content.{Content}
use Rattle.vh_instance.specs.Plan.{Plan, code_at}
use Rattle.vh_instance.specs.Presets.{mode_at}
use Rattle.vh_instance.specs.Firsts.{firsts_at}
use Rattle.vh_host.proofs.Saved.{at_node, as_many, text_is}
use Rattle.vh_host.proofs.preset_save.preset_named.Goals as goal

pub index-requires : goal.index-requires
index-requires g c =
    let plan : Plan = c.requires.band.0 in
    let long = as_many (λ (p : Processing g.row.P.Denot). g.P.Processor.code (value_of_opened (of_processing p))) c.args.band.now.processors.items (length plan.content.nodes) (code_at plan) c.requires.band.4.components.codes in
    let count : length plan.content.nodes ≡ length (nodes_of c.args.session.now.nodes) = ap (λ (content : Content). length content.nodes) c.requires.band.2 in
    let lt = c.in-Some.ensures.some.0 in
    let ok = c.args.band.now.processors.ok.0 in
    omega (arith, long, count, lt, ok)

pub index-requires-2 : goal.index-requires-2
index-requires-2 g c =
    let plan : Plan = c.requires.band.0 in
    let long = as_many (λ (e : Opened g.row.C.Denot). g.C.Controller.mode (value_of_opened e)) c.args.band.now.edits.items (length plan.content.nodes) (mode_at plan) c.requires.band.4.controllers.modes in
    let count : length plan.content.nodes ≡ length (nodes_of c.args.session.now.nodes) = ap (λ (content : Content). length content.nodes) c.requires.band.2 in
    let lt = c.in-Some.ensures.some.0 in
    let ok = c.args.band.now.edits.ok.0 in
    omega (arith, long, count, lt, ok)

pub returns-in-Ok-clause-text : goal.returns-in-Ok-clause-text
returns-in-Ok-clause-text g c = (
  c.in-Some.node,
  record { within = c.in-Some.ensures.some.0; named = c.in-Some.ensures.some.1 ∙ c.as_bytes.ensures.value },
  λ plan infos_are content_are same is.
      let node : ℕ = c.in-Some.node in
      let count : ℕ = length plan.content.nodes in
      let nodes : length plan.content.nodes ≡ length (nodes_of c.args.session.now.nodes) = ap (λ (content : Content). length content.nodes) content_are in
      let there = c.in-Some.ensures.some.0 in
      let lt : node < count = omega (arith, nodes, there) in
      let processors : List (Processing g.row.P.Denot) = c.args.band.now.processors.items in
      let edits : List (Opened g.row.C.Denot) = c.args.band.now.edits.items in
      let codes = as_many (λ (p : Processing g.row.P.Denot). g.P.Processor.code (value_of_opened (of_processing p))) processors count (code_at plan) is.components.codes in
      let modes = as_many (λ (e : Opened g.row.C.Denot). g.C.Controller.mode (value_of_opened e)) edits count (mode_at plan) is.controllers.modes in
      let inside : node < length processors = omega (arith, lt, codes) in
      let inside_too : node < length edits = omega (arith, lt, modes) in
      let processor = c.value-processor.ensures ∙ ap (λ (p : Processing g.row.P.Denot). value_of_opened (of_processing p)) c.index.ensures in
      let controller = c.value.ensures ∙ ap (λ (e : Opened g.row.C.Denot). value_of_opened e) c.index-2.ensures in
      c.in-Ok.ensures
      ∙ text_is plan node g.P.Processor.class_of c.class_of_node-class.result.now (g.P.Processor.code c.value-processor.result.now) (g.P.Processor.values c.value-processor.result.now) (g.C.Controller.mode c.value.result.now) same
      (c.class_of_node-class.ensures plan infos_are content_are)
      (ap g.P.Processor.code processor ∙ at_node (λ (p : Processing g.row.P.Denot). g.P.Processor.code (value_of_opened (of_processing p))) processors count (code_at plan) node c.index.result.now is.components.codes lt inside)
      (ap g.P.Processor.values processor ∙ at_node (λ (p : Processing g.row.P.Denot). g.P.Processor.values (value_of_opened (of_processing p))) processors count (firsts_at plan) node c.index.result.now is.components.values lt inside)
      (ap g.C.Controller.mode controller ∙ at_node (λ (e : Opened g.row.C.Denot). g.C.Controller.mode (value_of_opened e)) edits count (mode_at plan) node c.index-2.result.now is.controllers.modes lt inside_too),
)

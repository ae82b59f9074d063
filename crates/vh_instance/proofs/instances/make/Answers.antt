use Rattle.std.proofs.Common.{◌≡◌, ℕ, ◌+◌, ◌*◌, length, sym, ap, ◌∙◌, arith}
use Rattle.std.proofs.lemmas.Result.{err_from_is_err_and}
use Rattle.vh_params.specs.Nodes.{nodes_of}
use Rattle.vh_instance.specs.Plan.{Plan, plan_for}
use Rattle.vh_instance.specs.Raised.{raised_times}
use Rattle.vh_instance.specs.Band.{ProcessorMeaning, of_openers}
use Rattle.vh_instance.proofs.Classes.{suits}
use Rattle.vh_instance.proofs.Counting.{undone_then, raised_both}
use Rattle.vh_instance.proofs.Grown.{refusal_same, codes_same, values_same, first_same, components_then}
use Rattle.vh_instance.proofs.instances.make.Goals as goal

pub returns-in_err-controllers-clause-cause : goal.returns-in_err-controllers-clause-cause
returns-in_err-controllers-clause-cause g c =
    let p = err_from_is_err_and c.from_residual.result c.from_residual.ensures.1 in
    rw (p.1, p.2) (c.in_err-controllers.ensures.cause c.args.max)

pub make_components-requires-clause-accepted : goal.make_components-requires-clause-accepted
make_components-requires-clause-accepted g c κs within = λ node lt.
    let made = c.in_ok-controllers.ensures in
    refusal_same c.args.session.now c.args.presets.now (g.S.PluginSet.infos c.args.set.now) (g.S.PluginSet.infos c.make_controllers.new.set) (g.S.PluginSet.code c.args.set.now) (g.S.PluginSet.code c.make_controllers.new.set) g.S.P.Processor.class_of c.args.max made.infos made.codes node
    ∙ made.accepted c.args.max node lt

pub make_components-requires-clause-codes : goal.make_components-requires-clause-codes
make_components-requires-clause-codes g c κs within =
    let made = c.in_ok-controllers.ensures in
    ap (λ edits. of_openers g.S.C.Controller.code edits) c.deref.ensures.value ∙ (made.controllers c.args.max).codes
    ∙ sym (codes_same c.args.session.now c.args.presets.now (g.S.PluginSet.infos c.args.set.now) (g.S.PluginSet.infos c.make_controllers.new.set) (g.S.PluginSet.code c.args.set.now) (g.S.PluginSet.code c.make_controllers.new.set) g.S.P.Processor.class_of c.args.max made.infos made.codes (length (nodes_of c.args.session.now.nodes)))

pub make_components-requires-clause-values : goal.make_components-requires-clause-values
make_components-requires-clause-values g c κs within =
    let made = c.in_ok-controllers.ensures in
    ap (λ edits. of_openers g.S.C.Controller.values edits) c.deref.ensures.value ∙ (made.controllers c.args.max).values
    ∙ sym (values_same c.args.session.now c.args.presets.now (g.S.PluginSet.infos c.args.set.now) (g.S.PluginSet.infos c.make_controllers.new.set) (g.S.PluginSet.code c.args.set.now) (g.S.PluginSet.code c.make_controllers.new.set) g.S.P.Processor.class_of c.args.max made.infos made.codes (length (nodes_of c.args.session.now.nodes)))

pub end_controllers-requires-after_bounds : goal.end_controllers-requires-after_bounds
end_controllers-requires-after_bounds g c κs within = (c.in_ok-controllers.ensures.controllers 0).held

pub returns-in-Ok-clause-band : goal.returns-in-Ok-clause-band
returns-in-Ok-clause-band g c =
    let meant : ProcessorMeaning g.row.S-P.Denot = record { code = g.S.P.Processor.code; values = g.S.P.Processor.values; state = g.S.P.Processor.state; calls = g.S.P.Processor.calls; phase = g.S.P.Life.phase; setup = g.S.P.Life.last_setup } in
    let session = c.args.session.now in
    let before = c.args.set.now in
    let then = c.make_controllers.new.set in
    let made = c.in_ok-controllers.ensures in
    let plan : Plan = plan_for (g.S.PluginSet.infos before) (g.S.PluginSet.code before) g.S.P.Processor.class_of session c.args.presets.now c.args.max in
    record {
      suited = λ node lt. suits plan c.requires.stands node lt (λ class d within. g.met.S.PluginSet.components before class d within);
      components = components_then session c.args.presets.now (g.S.PluginSet.infos before) (g.S.PluginSet.infos then) (g.S.PluginSet.code before) (g.S.PluginSet.code then) g.S.P.Processor.class_of c.args.max made.infos made.codes meant (length (nodes_of session.nodes))
          c.in-Ok.field-0.components.items c.in-Ok.field-0.processors.items c.in-Ok.ensures.components;
      controllers = made.controllers c.args.max;
      first = c.in-Ok.ensures.first ∙ first_same session c.args.presets.now (g.S.PluginSet.infos before) (g.S.PluginSet.infos then) (g.S.PluginSet.code before) (g.S.PluginSet.code then) g.S.P.Processor.class_of c.args.max made.infos made.codes;
    }

pub returns-in-Ok-clause-made : goal.returns-in-Ok-clause-made
returns-in-Ok-clause-made g c =
    let nodes = length (nodes_of c.args.session.now.nodes) in
    let before = g.S.PluginSet.made c.args.set.now in
    c.in-Ok.ensures.made ∙ ap (λ (k : ℕ). raised_times nodes k) c.in_ok-controllers.ensures.made ∙ raised_both nodes nodes before ∙ ap (λ (n : ℕ). raised_times n before) (let e : nodes + nodes ≡ 2 * nodes = omega arith in e)

pub returns-in-Ok-clause-codes : goal.returns-in-Ok-clause-codes
returns-in-Ok-clause-codes g c = λ class. c.in-Ok.ensures.codes class ∙ c.in_ok-controllers.ensures.codes class

pub returns-in-Err-clause-refused : goal.returns-in-Err-clause-refused
returns-in-Err-clause-refused g c =
    let before = c.args.set.now in
    let then = c.make_controllers.new.set in
    let mid = c.make_components.new.set in
    let new = c.end_controllers.new.set in
    let made = c.in_ok-controllers.ensures in
    let ended = c.end_controllers.ensures in
    undone_then (length (nodes_of c.args.session.now.nodes)) (g.S.PluginSet.made before) (g.S.PluginSet.ended before) (g.S.PluginSet.work before) (g.S.PluginSet.made then) (g.S.PluginSet.ended then) (g.S.PluginSet.work then) (g.S.PluginSet.made mid) (g.S.PluginSet.ended mid) (g.S.PluginSet.work mid) (g.S.PluginSet.made new) (g.S.PluginSet.ended new) (g.S.PluginSet.work new)
    made.made made.kept made.work c.in-Err.ensures.refused
    ended.made (ended.ended ∙ ap (λ (n : ℕ). raised_times n (g.S.PluginSet.ended mid)) (made.controllers 0).size) ended.work

use Rattle.std.proofs.Common.{◌≡◌, ℕ, ◌<◌, List, Option, ◌++◌, length, map, sym, ap, subst, ◌∙◌, arith}
use Rattle.std.specs.Option.{option_map, option_copied, option_and_then}
use Rattle.vh_component.specs.declared.setup.Setup.{Setup}
use Rattle.vh_counted.specs.Held.{object_of_shell}
use Rattle.vh_params.specs.declared.param.ParamInfo.{ParamInfo}
use Rattle.vh_params.specs.ClassList.{classes_of}
use Rattle.vh_plugin.specs.Class.{AreValues, Param, param_of}
use Rattle.vh_preset.specs.Contents.{Contents}
use Rattle.vh_preset.specs.Seen.{contents_of}
use Rattle.vh_instance.specs.Plan.{Plan, plan_for, class_at, component_at, preset_at}
use Rattle.vh_instance.specs.Presets.{preset_refusal}
use Rattle.vh_instance.specs.Band.{ProcessorMeaning, node_buses}
use Rattle.vh_instance.proofs.Classes.{suits, suits_too, code_chosen, aux_chosen}
use Rattle.vh_instance.proofs.Loaded.{preset_is}
use Rattle.vh_instance.proofs.Making.{object_is, component_made}
use Rattle.vh_instance.proofs.component.make_component.Goals as goal

pub add_values-requires : goal.add_values-requires
add_values-requires g c =
    let plan : Plan = plan_for (g.S.PluginSet.infos c.args.set.now) (g.S.PluginSet.code c.args.set.now) g.S.P.Processor.class_of c.args.session.now c.args.presets.now c.args.max in
    ap (λ (n : ℕ). (g.S.C.Controller.class_of n).params) c.requires.code
    ∙ suits_too plan c.requires.stands c.args.node c.requires.node g.S.C.Controller.class_of (λ class d lt. g.met.S.PluginSet.controllers c.args.set.now class d lt)
    ∙ ap (λ (infos : List ParamInfo). map param_of infos) (sym (c.params.ensures.value ∙ c.table.ensures.params))

pub load_component-requires : goal.load_component-requires
load_component-requires g c =
    let node = c.args.node in
    let plan : Plan = plan_for (g.S.PluginSet.infos c.args.set.now) (g.S.PluginSet.code c.args.set.now) g.S.P.Processor.class_of c.args.session.now c.args.presets.now c.args.max in
    let code = c.in_ok-processor.ensures.code ∙ code_chosen plan node (classes_of c.classes.result.now) c.class_of_node-class.result c.classes.ensures c.class_of_node-class.ensures.number in
    let lt : node < length c.args.presets.now = omega (arith, c.requires.node, c.requires.presets) in
    let preset : option_map contents_of (option_copied c.as_ref.result) ≡ preset_at plan node = ap (option_map contents_of) (c.as_ref.ensures.value ∙ c.index-presets-node.is) ∙ sym (preset_is c.args.presets.now node c.index-presets-node.result lt) in
    let component = component_at plan node in (
      component,
      ap (λ (n : ℕ). option_and_then (preset_refusal (g.S.P.Processor.class_of n) component) (option_map contents_of (option_copied c.as_ref.result))) code
          ∙ ap (λ (o : Option Contents). option_and_then (preset_refusal (class_at plan node) component) o) preset ∙ c.requires.accepted,
    )

pub set_first-requires : goal.set_first-requires
set_first-requires g c =
    let plan : Plan = plan_for (g.S.PluginSet.infos c.args.set.now) (g.S.PluginSet.code c.args.set.now) g.S.P.Processor.class_of c.args.session.now c.args.presets.now c.args.max in
    let stands = c.requires.stands in
    let code = c.load_component.ensures.code ∙ c.in_ok-processor.ensures.code ∙ code_chosen plan c.args.node (classes_of c.classes.result.now) c.class_of_node-class.result c.classes.ensures c.class_of_node-class.ensures.number in
    let theirs = ap (λ (n : ℕ). (g.S.C.Controller.class_of n).params) c.requires.code ∙ suits_too plan stands c.args.node c.requires.node g.S.C.Controller.class_of (λ class d lt. g.met.S.PluginSet.controllers c.args.set.now class d lt) in
    let ours = ap (λ (n : ℕ). (g.S.P.Processor.class_of n).params) code ∙ (suits plan stands c.args.node c.requires.node (λ class d lt. g.met.S.PluginSet.components c.args.set.now class d lt)).params in
    let values = c.deref.ensures.value ∙ c.in_ok-add_values.ensures.added ∙ ap (λ (xs : List ℕ). xs ++ g.S.C.Controller.values c.args.controller.now) c.new-values.ensures.items in
    subst (λ (xs : List ℕ). AreValues (g.S.P.Processor.class_of (g.S.P.Processor.code c.load_component.new.processor)).params xs) (sym values)
    (subst (λ (params : List Param). AreValues params (g.S.C.Controller.values c.args.controller.now)) (theirs ∙ sym ours) c.add_values.ensures.valued)

pub returns-clause-component : goal.returns-clause-component
returns-clause-component g c =
    let meant : ProcessorMeaning g.row.S-P.Denot = record { code = g.S.P.Processor.code; values = g.S.P.Processor.values; state = g.S.P.Processor.state; calls = g.S.P.Processor.calls; phase = g.S.P.Life.phase; setup = g.S.P.Life.last_setup } in
    let session = c.args.session.now in
    let node = c.args.node in
    let plan : Plan = plan_for (g.S.PluginSet.infos c.args.set.now) (g.S.PluginSet.code c.args.set.now) g.S.P.Processor.class_of session c.args.presets.now c.args.max in
    let chosen = code_chosen plan node (classes_of c.classes.result.now) c.class_of_node-class.result c.classes.ensures c.class_of_node-class.ensures.number in
    let values = c.deref.ensures.value ∙ c.in_ok-add_values.ensures.added ∙ ap (λ (xs : List ℕ). xs ++ g.S.C.Controller.values c.args.controller.now) c.new-values.ensures.items ∙ c.requires.values in
    let value = c.find_interfaces.ensures.value ∙ c.fill-opener.ensures.value in
    let made = c.in_ok-processor.ensures in
    let loaded = c.load_component.ensures in
    let first = c.set_first.ensures in
    let aux = aux_chosen plan c.requires.stands node c.requires.node (λ class d lt. g.met.S.PluginSet.components c.args.set.now class d lt) (classes_of c.classes.result.now) (classes_of c.classes-2.result.now) c.class_of_node-class.result c.info.result.now c.classes.ensures c.classes-2.ensures c.class_of_node-class.ensures.number c.info.ensures in
    let started = c.start.ensures in
    component_made meant plan node c.fill-opener.result.0 c.find_interfaces.new.opener c.start.result
    (started.code ∙ ap g.S.P.Processor.code value ∙ first.code ∙ loaded.code ∙ made.code ∙ chosen)
    (started.values ∙ ap g.S.P.Processor.values value ∙ first.values ∙ values)
    (started.state ∙ ap g.S.P.Processor.state value ∙ first.state ∙ loaded.state ∙ made.state ∙ ap (λ (n : ℕ). (g.S.P.Processor.class_of n).start) chosen)
    (started.calls ∙ ap g.S.P.Processor.calls value ∙ first.calls ∙ loaded.calls ∙ made.calls)
    started.phase
    (record { channels = ap (λ (s : Setup). s.channels) started.setup; max = ap (λ (s : Setup). s.max) started.setup })
    (started.buses ∙ ap (λ aux. node_buses session.channels aux c.has_aux_wire-reached.result) aux ∙ ap (λ reached. node_buses session.channels (class_at plan node).aux reached) c.has_aux_wire-reached.ensures)
    started.seat
    (c.fill-opener.ensures.object ∙ object_is (object_of_shell c.in_ok-shell.shell) 5 4 c.in_ok-shell.ensures.interfaces c.in_ok-shell.ensures.cap)
    c.find_interfaces.ensures.references
    (c.find_interfaces.ensures.object ∙ c.fill-opener.ensures.opener ∙ sym c.fill-opener.ensures.object)
    c.find_interfaces.ensures.whole

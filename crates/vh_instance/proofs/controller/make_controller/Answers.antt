use Rattle.std.proofs.Common.{◌≡◌, ℕ, Option, ◌+◌, ◌*◌, ◌<◌, length, map, refl, sym, ap, subst, ◌∙◌, arith}
use Rattle.std.specs.Option.{option_map, option_copied}
use Rattle.std.proofs.lemmas.List.{length-map}
use Rattle.vh_counted.specs.Held.{object_of_shell}
use Rattle.vh_counted.specs.Objects.{IsWhole}
use Rattle.vh_params.specs.ClassList.{classes_of}
use Rattle.vh_plugin.specs.Sets.{AgreeOnBytes}
use Rattle.vh_preset.specs.Contents.{Contents}
use Rattle.vh_preset.specs.Seen.{contents_of}
use Rattle.vh_session.specs.View.{script_text}
use Rattle.vh_instance.specs.Plan.{Plan, plan_for, number_at, code_at, class_at, preset_at}
use Rattle.vh_instance.specs.Presets.{mode_under}
use Rattle.vh_instance.specs.Raised.{IsUndone}
use Rattle.vh_instance.specs.Seats.{opener_seat, Has}
use Rattle.vh_instance.specs.Band.{ControllerMeaning, controller_table, controller_object, kept_beside}
use Rattle.vh_instance.proofs.Classes.{suits, suits_too, number_within, code_chosen, component_chosen}
use Rattle.vh_instance.proofs.Counting.{on_err, undone_none, undone_one}
use Rattle.vh_instance.proofs.Loaded.{preset_is, firsts_are, refusal_is}
use Rattle.vh_instance.proofs.Making.{object_is, controller_made}
use Rattle.vh_instance.proofs.controller.make_controller.Goals as goal

pub returns-in_err-shell-clause-refused : goal.returns-in_err-shell-clause-refused
returns-in_err-shell-clause-refused g c = on_err c.from_residual.result (IsUndone (g.S.PluginSet.made c.args.set.now) (g.S.PluginSet.ended c.args.set.now) (g.S.PluginSet.work c.args.set.now) (g.S.PluginSet.made c.args.set.now) (g.S.PluginSet.ended c.args.set.now) (g.S.PluginSet.work c.args.set.now)) (undone_none (g.S.PluginSet.made c.args.set.now) (g.S.PluginSet.ended c.args.set.now) (g.S.PluginSet.work c.args.set.now))

pub returns-in_err-controller-clause-refused : goal.returns-in_err-controller-clause-refused
returns-in_err-controller-clause-refused g c =
    let before = c.args.set.now in
    let then = c.create_controller.new.self in
    on_err c.from_residual-in_err-controller.result (IsUndone (g.S.PluginSet.made before) (g.S.PluginSet.ended before) (g.S.PluginSet.work before) (g.S.PluginSet.made then) (g.S.PluginSet.ended then) (g.S.PluginSet.work then))
    (record { objects = 0; made = c.in_err-controller.ensures.unmade; ended = c.in_err-controller.ensures.ended; components = 0; work = c.in_err-controller.ensures.work })

pub begin_controller-begun-requires-clause-params : goal.begin_controller-begun-requires-clause-params
begin_controller-begun-requires-clause-params g c =
    let plan : Plan = plan_for (g.S.PluginSet.infos c.args.set.now) (g.S.PluginSet.code c.args.set.now) g.S.P.Processor.class_of c.args.session.now c.args.presets.now 0 in
    let code = c.in_ok-controller.ensures.code ∙ code_chosen plan c.args.node (classes_of c.classes.result.now) c.class_of_node-class.result c.classes.ensures c.class_of_node-class.ensures.number in
    ap (λ (n : ℕ). (g.S.C.Controller.class_of n).params) code
    ∙ suits_too plan c.requires.stands c.args.node c.requires.node g.S.C.Controller.class_of (λ class d lt. g.met.S.PluginSet.controllers c.args.set.now class d lt)

pub returns-in-Ok-clause-controller : goal.returns-in-Ok-clause-controller
returns-in-Ok-clause-controller g c = λ max.
    let meant : ControllerMeaning g.row.S-C.Denot = record { code = g.S.C.Controller.code; values = g.S.C.Controller.values; mode = g.S.C.Controller.mode } in
    let session = c.args.session.now in
    let node = c.args.node in
    let stands = c.requires.stands in
    let plan : Plan = plan_for (g.S.PluginSet.infos c.args.set.now) (g.S.PluginSet.code c.args.set.now) g.S.P.Processor.class_of session c.args.presets.now max in
    let code : g.S.C.Controller.code c.in_ok-controller.controller ≡ code_at plan node =
    c.in_ok-controller.ensures.code ∙ code_chosen plan node (classes_of c.classes.result.now) c.class_of_node-class.result c.classes.ensures c.class_of_node-class.ensures.number in
    let lt : node < length c.args.presets.now = omega (arith, c.requires.node, c.requires.presets) in
    let given : Option Contents = option_map contents_of (option_copied c.as_ref.result) in
    let preset : given ≡ preset_at plan node = ap (option_map contents_of) (c.as_ref.ensures.value ∙ c.index-presets-node.is) ∙ sym (preset_is c.args.presets.now node c.index-presets-node.result lt) in
    let agree : AgreeOnBytes (g.S.C.Controller.class_of (code_at plan node)) (class_at plan node) = λ bytes. sym (g.met.S.PluginSet.agreeing c.args.set.now (number_at plan node) (number_within plan.infos plan.content stands node c.requires.node) bytes) in
    let same = suits_too plan stands node c.requires.node g.S.C.Controller.class_of (λ class d within. g.met.S.PluginSet.controllers c.args.set.now class d within) ∙ sym (suits plan stands node c.requires.node (λ class d within. g.met.S.PluginSet.components c.args.set.now class d within)).params in
    let values = c.in-Ok.ensures.values ∙ firsts_are plan node g.S.C.Controller.class_of (g.S.C.Controller.code c.in_ok-controller.controller) given code agree same preset in
    let value = c.find_interfaces.ensures.value ∙ c.fill-opener.ensures.value in
    let scripts = session.scripts.items in
    let editors : c.len-editors.result ≡ length (map script_text scripts) = omega (arith, c.len-editors.ensures, session.scripts.ok.0, length-map scripts script_text) in
    let edit = c.find_interfaces.new.opener in
    controller_made meant plan node c.fill-opener.result.0 edit
    (ap g.S.C.Controller.code value ∙ c.in-Ok.ensures.code ∙ code)
    (ap g.S.C.Controller.values value ∙ values)
    (ap g.S.C.Controller.mode value ∙ c.in-Ok.ensures.mode ∙ ap mode_under preset)
    (c.fill-opener.ensures.object ∙ object_is (object_of_shell c.in_ok-shell.shell) 4 (2 + 66 * c.len-editors.result) c.in_ok-shell.ensures.interfaces c.in_ok-shell.ensures.cap ∙ ap controller_object editors)
    (subst (λ (n : ℕ). Has controller_table (kept_beside (2 * n)) (64 * n) (opener_seat edit)) editors c.find_interfaces.ensures.references)
    (c.find_interfaces.ensures.object ∙ c.fill-opener.ensures.opener ∙ sym c.fill-opener.ensures.object)
    (subst (λ (n : ℕ). IsWhole (2 + 66 * n) edit.numbers) editors c.find_interfaces.ensures.whole)

pub returns-in-Ok-clause-accepted : goal.returns-in-Ok-clause-accepted
returns-in-Ok-clause-accepted g c = λ max.
    let node = c.args.node in
    let stands = c.requires.stands in
    let plan : Plan = plan_for (g.S.PluginSet.infos c.args.set.now) (g.S.PluginSet.code c.args.set.now) g.S.P.Processor.class_of c.args.session.now c.args.presets.now max in
    let code : g.S.C.Controller.code c.in_ok-controller.controller ≡ code_at plan node =
    c.in_ok-controller.ensures.code ∙ code_chosen plan node (classes_of c.classes.result.now) c.class_of_node-class.result c.classes.ensures c.class_of_node-class.ensures.number in
    let component = component_chosen plan stands node c.requires.node (classes_of c.classes.result.now) (classes_of c.classes-2.result.now) c.class_of_node-class.result c.info.result.now c.classes.ensures c.classes-2.ensures c.class_of_node-class.ensures.number c.info.ensures in
    let lt : node < length c.args.presets.now = omega (arith, c.requires.node, c.requires.presets) in
    let given : Option Contents = option_map contents_of (option_copied c.as_ref.result) in
    let preset : given ≡ preset_at plan node = ap (option_map contents_of) (c.as_ref.ensures.value ∙ c.index-presets-node.is) ∙ sym (preset_is c.args.presets.now node c.index-presets-node.result lt) in
    let agree : AgreeOnBytes (g.S.C.Controller.class_of (code_at plan node)) (class_at plan node) = λ bytes. sym (g.met.S.PluginSet.agreeing c.args.set.now (number_at plan node) (number_within plan.infos plan.content stands node c.requires.node) bytes) in
    let refusal = refusal_is plan node g.S.C.Controller.class_of (g.S.C.Controller.code c.in_ok-controller.controller) c.info.result.now.component.0 given code agree component preset in
    sym (c.in-Ok.ensures.judged ∙ refusal)

pub returns-in-Err-clause-cause : goal.returns-in-Err-clause-cause
returns-in-Err-clause-cause g c = λ max.
    let node = c.args.node in
    let stands = c.requires.stands in
    let plan : Plan = plan_for (g.S.PluginSet.infos c.args.set.now) (g.S.PluginSet.code c.args.set.now) g.S.P.Processor.class_of c.args.session.now c.args.presets.now max in
    let code : g.S.C.Controller.code c.in_ok-controller.controller ≡ code_at plan node =
    c.in_ok-controller.ensures.code ∙ code_chosen plan node (classes_of c.classes.result.now) c.class_of_node-class.result c.classes.ensures c.class_of_node-class.ensures.number in
    let component = component_chosen plan stands node c.requires.node (classes_of c.classes.result.now) (classes_of c.classes-2.result.now) c.class_of_node-class.result c.info.result.now c.classes.ensures c.classes-2.ensures c.class_of_node-class.ensures.number c.info.ensures in
    let lt : node < length c.args.presets.now = omega (arith, c.requires.node, c.requires.presets) in
    let given : Option Contents = option_map contents_of (option_copied c.as_ref.result) in
    let preset : given ≡ preset_at plan node = ap (option_map contents_of) (c.as_ref.ensures.value ∙ c.index-presets-node.is) ∙ sym (preset_is c.args.presets.now node c.index-presets-node.result lt) in
    let agree : AgreeOnBytes (g.S.C.Controller.class_of (code_at plan node)) (class_at plan node) = λ bytes. sym (g.met.S.PluginSet.agreeing c.args.set.now (number_at plan node) (number_within plan.infos plan.content stands node c.requires.node) bytes) in
    let refusal = refusal_is plan node g.S.C.Controller.class_of (g.S.C.Controller.code c.in_ok-controller.controller) c.info.result.now.component.0 given code agree component preset in
    (refl, sym (c.in-Err.ensures.judged ∙ refusal))

pub returns-in-Err-clause-refused : goal.returns-in-Err-clause-refused
returns-in-Err-clause-refused g c =
    let before = c.args.set.now in
    let then = c.create_controller.new.self in
    let new = c.end_controller.new.set in
    let made = c.in_ok-controller.ensures in
    let ended = c.end_controller.ensures in
    undone_one (g.S.PluginSet.made before) (g.S.PluginSet.ended before) (g.S.PluginSet.work before) (g.S.PluginSet.made then) (g.S.PluginSet.ended then) (g.S.PluginSet.made new) (g.S.PluginSet.ended new) (g.S.PluginSet.work new)
    made.made made.ended ended.made ended.ended (ended.work ∙ made.work)

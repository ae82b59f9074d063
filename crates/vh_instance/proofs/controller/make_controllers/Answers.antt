use Rattle.std.proofs.Common.{◌≡◌, ℕ, ◌+◌, ◌*◌, ◌<◌, List, [], ◌∷◌, ◌++◌, length, map, replicate, Vec, vec_capacity, None, refl, sym, ap, subst, ◌∙◌, arith, below_more}
use Rattle.std.specs.declared.alloc.Global.{Global}
use Rattle.std.proofs.lemmas.List.{length-map, length-replicate, with_items_is}
use Rattle.vh_counted.specs.declared.object.Counted.{Counted}
use Rattle.vh_counted.specs.declared.object.Holder.{Holder}
use Rattle.vh_counted.specs.declared.object.Object.{Object}
use Rattle.vh_counted.specs.declared.object.Opened.{Opened}
use Rattle.vh_counted.specs.Held.{object_of}
use Rattle.vh_params.specs.Nodes.{nodes_of}
use Rattle.vh_session.specs.View.{script_text}
use Rattle.vh_instance.specs.Plan.{Plan, plan_for}
use Rattle.vh_instance.specs.Presets.{refusal_at, AreAccepted}
use Rattle.vh_instance.specs.Raised.{raised_times, IsUndone}
use Rattle.vh_instance.specs.Seats.{opener_seat, row_seats, ArePushed, HaveRoom, Has}
use Rattle.vh_instance.specs.Band.{ControllerMeaning, objects_of, AreControllers, controller_table, kept_beside}
use Rattle.vh_instance.proofs.Counting.{on_err, undone_none, undone_then, raised_more}
use Rattle.vh_instance.proofs.Ends.{edits_size}
use Rattle.vh_instance.proofs.Grown.{begun_controllers_at, grown_controllers, rows_room, refusal_same, first_cause}
use Rattle.vh_instance.proofs.controller.make_controllers.Goals as goal

pub returns-in_err-controllers-clause-refused : goal.returns-in_err-controllers-clause-refused
returns-in_err-controllers-clause-refused g c = on_err c.from_residual.result (IsUndone (g.S.PluginSet.made c.args.set.now) (g.S.PluginSet.ended c.args.set.now) (g.S.PluginSet.work c.args.set.now) (g.S.PluginSet.made c.args.set.now) (g.S.PluginSet.ended c.args.set.now) (g.S.PluginSet.work c.args.set.now)) (undone_none (g.S.PluginSet.made c.args.set.now) (g.S.PluginSet.ended c.args.set.now) (g.S.PluginSet.work c.args.set.now))

pub returns-in-Err-empty_rows-clause-refused : goal.returns-in-Err-empty_rows-clause-refused
returns-in-Err-empty_rows-clause-refused g c = undone_none (g.S.PluginSet.made c.args.set.now) (g.S.PluginSet.ended c.args.set.now) (g.S.PluginSet.work c.args.set.now)

pub loop-node-init : goal.loop-node-init
loop-node-init g c =
    let meant : ControllerMeaning g.row.S-C.Denot = record { code = g.S.C.Controller.code; values = g.S.C.Controller.values; mode = g.S.C.Controller.mode } in
    let plan : ℕ → Plan = λ m. plan_for (g.S.PluginSet.infos c.args.set.now) (g.S.PluginSet.code c.args.set.now) g.S.P.Processor.class_of c.args.session.now c.args.presets.now m in
    let scripts = c.args.session.now.scripts in
    let rows = c.in-Ok-empty_rows.holders.items in
    let empty = c.in-Ok-empty_rows.ensures in
    let editors : c.len.result ≡ length scripts.items = omega (arith, c.len.ensures, scripts.ok.0) in
    let long : length rows ≡ c.len.result =
    sym (length-map rows (λ (row : Vec (Holder g.row.S-C.Denot) Global). vec_capacity row)) ∙ ap (λ (ns : List ℕ). length ns) empty.capacities ∙ length-replicate c.len.result c.len-count.result in
    record {
      controllers = λ max. begun_controllers_at meant (plan max) c.in_ok-controllers.controllers.items c.in-Ok.edits.items rows c.in_ok-controllers.ensures.items c.in-Ok.ensures.items empty.empty (long ∙ editors ∙ sym (length-map scripts.items script_text));
      accepted = λ max node lt. absurd (omega (arith, lt));
      places = c.in_ok-controllers.ensures.exact;
      more_places = c.in-Ok.ensures.exact;
      row_places = empty.capacities ∙ ap (λ (n : ℕ). replicate n c.len-count.result) editors;
      made = refl;
      ended = refl;
      work = refl;
      infos = refl;
      codes = λ class. refl;
    }

pub part_all-requires-clause-interfaces : goal.part_all-requires-clause-interfaces
part_all-requires-clause-interfaces g c = ap (λ (o : Object). o.interfaces) (c.in-Ok-make_controller.ensures.controller 0).object

pub part_all-requires-clause-references : goal.part_all-requires-clause-references
part_all-requires-clause-references g c =
    let is = c.in-Ok-make_controller.ensures.controller 0 in
    let are = c.loop-node.invariant.controllers 0 in
    let long = sym (ap (λ (rows : List (Vec (Holder g.row.S-C.Denot) Global)). length rows) c.deref_mut.ensures.value ∙ are.editors) in
    subst (λ (n : ℕ). Has controller_table (kept_beside (2 * n)) (64 * n) (opener_seat c.in-Ok-make_controller.opener)) long is.references

pub part_all-requires-clause-held : goal.part_all-requires-clause-held
part_all-requires-clause-held g c = (c.in-Ok-make_controller.ensures.controller 0).held

pub part_all-requires-clause-room : goal.part_all-requires-clause-room
part_all-requires-clause-room g c =
    let invariant = c.loop-node.invariant in
    let are = invariant.controllers 0 in
    let controllers = c.loop-node.controllers.items in
    let few : length (objects_of controllers) < c.len-count.result = omega (arith, are.size, c.loop-node-test.true, length-map controllers (λ (controller : Counted g.row.S-C.Denot). object_of controller)) in
    subst (λ (rows : List (Vec (Holder g.row.S-C.Denot) Global)). HaveRoom rows) (sym c.deref_mut.ensures.value)
    (rows_room (objects_of controllers) (map opener_seat c.loop-node.edits.items) c.loop-node.holders.items (length c.args.session.now.scripts.items) c.len-count.result are.held invariant.row_places few)

pub push_reserved-requires : goal.push_reserved-requires
push_reserved-requires g c =
    let are = c.loop-node.invariant.controllers 0 in
    omega (arith, are.size, c.loop-node.controllers.ok.0, c.loop-node.invariant.places, c.loop-node-test.true)

pub push_reserved-requires-in-Ok-make_controller : goal.push_reserved-requires-in-Ok-make_controller
push_reserved-requires-in-Ok-make_controller g c =
    let are = c.loop-node.invariant.controllers 0 in
    let size = edits_size c.loop-node.controllers.items c.loop-node.edits.items (map row_seats c.loop-node.holders.items) are.held in
    omega (arith, size, are.size, c.loop-node.edits.ok.0, c.loop-node.invariant.more_places, c.loop-node-test.true)

pub end_controllers-requires-after_bounds : goal.end_controllers-requires-after_bounds
end_controllers-requires-after_bounds g c κs within = (c.loop-node.invariant.controllers 0).held

pub returns-in-Err-make_controller-clause-refused : goal.returns-in-Err-make_controller-clause-refused
returns-in-Err-make_controller-clause-refused g c =
    let invariant = c.loop-node.invariant in
    let are = invariant.controllers 0 in
    let before = c.args.set.now in
    let then = c.loop-node.set in
    let mid = c.make_controller.new.set in
    let new = c.end_controllers.new.set in
    let ended = c.end_controllers.ensures in
    undone_then c.loop-node.node (g.S.PluginSet.made before) (g.S.PluginSet.ended before) (g.S.PluginSet.work before) (g.S.PluginSet.made then) (g.S.PluginSet.ended then) (g.S.PluginSet.work then) (g.S.PluginSet.made mid) (g.S.PluginSet.ended mid) (g.S.PluginSet.work mid) (g.S.PluginSet.made new) (g.S.PluginSet.ended new) (g.S.PluginSet.work new)
    invariant.made invariant.ended invariant.work c.in-Err-make_controller.ensures.refused
    ended.made (ended.ended ∙ ap (λ (n : ℕ). raised_times n (g.S.PluginSet.ended mid)) are.size) ended.work

pub returns-in-Err-make_controller-clause-cause : goal.returns-in-Err-make_controller-clause-cause
returns-in-Err-make_controller-clause-cause g c = λ max.
    let invariant = c.loop-node.invariant in
    let session = c.args.session.now in
    let within : c.loop-node.node < length (nodes_of session.nodes) = omega (arith, c.len-count.ensures.count, c.loop-node-test.true) in
    first_cause session c.args.presets.now (g.S.PluginSet.infos c.args.set.now) (g.S.PluginSet.infos c.loop-node.set) (g.S.PluginSet.code c.args.set.now) (g.S.PluginSet.code c.loop-node.set) g.S.P.Processor.class_of max invariant.infos invariant.codes
    c.loop-node.node c.in-Err-make_controller.refused within (invariant.accepted max) (c.in-Err-make_controller.ensures.cause max)

pub returns-in-Err-make_controller-clause-work : goal.returns-in-Err-make_controller-clause-work
returns-in-Err-make_controller-clause-work g c = c.end_controllers.ensures.work ∙ c.in-Err-make_controller.ensures.work ∙ c.loop-node.invariant.work

pub returns-in-Err-make_controller-clause-infos : goal.returns-in-Err-make_controller-clause-infos
returns-in-Err-make_controller-clause-infos g c = c.end_controllers.ensures.infos ∙ c.in-Err-make_controller.ensures.infos ∙ c.loop-node.invariant.infos

pub returns-in-Err-make_controller-clause-codes : goal.returns-in-Err-make_controller-clause-codes
returns-in-Err-make_controller-clause-codes g c = λ class. c.end_controllers.ensures.codes class ∙ c.in-Err-make_controller.ensures.codes class ∙ c.loop-node.invariant.codes class

pub loop-node-preserved : goal.loop-node-preserved
loop-node-preserved g c =
    let meant : ControllerMeaning g.row.S-C.Denot = record { code = g.S.C.Controller.code; values = g.S.C.Controller.values; mode = g.S.C.Controller.mode } in
    let plan : ℕ → Plan = λ m. plan_for (g.S.PluginSet.infos c.args.set.now) (g.S.PluginSet.code c.args.set.now) g.S.P.Processor.class_of c.args.session.now c.args.presets.now m in
    let invariant = c.loop-node.invariant in
    let then = c.in-Ok-make_controller.ensures in
    let session = c.args.session.now in
    let parted = c.part_all.ensures in
    let written = with_items_is c.loop-node.holders c.part_all.new.rows (c.part_all.auto.rows ∙ c.deref_mut.ensures.len) in
    let pushed = subst (λ (rows : List (Vec (Holder g.row.S-C.Denot) Global)). ArePushed parted.rows.0 (map row_seats rows) (map row_seats c.part_all.new.rows)) c.deref_mut.ensures.value parted.rows.1 in
    record {
      controllers = λ max.
          subst (λ (rows : List (Vec (Holder g.row.S-C.Denot) Global)). AreControllers meant (plan max) (c.loop-node.node + 1) c.push_reserved.new.self.items c.push_reserved-in-Ok-make_controller.new.self.items rows) (sym written)
          (subst (λ (cs : List (Counted g.row.S-C.Denot)). AreControllers meant (plan max) (c.loop-node.node + 1) cs c.push_reserved-in-Ok-make_controller.new.self.items c.part_all.new.rows) (sym c.push_reserved.ensures.items)
          (subst (λ (es : List (Opened g.row.S-C.Denot)). AreControllers meant (plan max) (c.loop-node.node + 1) (c.loop-node.controllers.items ++ c.in-Ok-make_controller.object ∷ []) es c.part_all.new.rows) (sym c.push_reserved-in-Ok-make_controller.ensures.items)
          (grown_controllers session c.args.presets.now (g.S.PluginSet.infos c.args.set.now) (g.S.PluginSet.infos c.loop-node.set) (g.S.PluginSet.code c.args.set.now) (g.S.PluginSet.code c.loop-node.set) g.S.P.Processor.class_of max invariant.infos invariant.codes meant c.loop-node.node
          c.loop-node.controllers.items c.loop-node.edits.items c.loop-node.holders.items c.part_all.new.rows c.in-Ok-make_controller.object c.in-Ok-make_controller.opener c.part_all.new.opener parted.rows.0
          (invariant.controllers max) (then.controller max) parted.value parted.references pushed parted.rows.2 parted.rows.3)));
      accepted = λ max. below_more (λ node. refusal_at (plan max) node ≡ None) c.loop-node.node (invariant.accepted max)
          (sym (refusal_same session c.args.presets.now (g.S.PluginSet.infos c.args.set.now) (g.S.PluginSet.infos c.loop-node.set) (g.S.PluginSet.code c.args.set.now) (g.S.PluginSet.code c.loop-node.set) g.S.P.Processor.class_of max invariant.infos invariant.codes c.loop-node.node) ∙ then.accepted max);
      places = c.push_reserved.ensures.capacity ∙ invariant.places;
      more_places = c.push_reserved-in-Ok-make_controller.ensures.capacity ∙ invariant.more_places;
      row_places = ap (λ (rows : List (Vec (Holder g.row.S-C.Denot) Global)). map vec_capacity rows) written ∙ parted.capacities ∙ ap (λ (rows : List (Vec (Holder g.row.S-C.Denot) Global)). map vec_capacity rows) c.deref_mut.ensures.value ∙ invariant.row_places;
      made = then.made ∙ ap (λ (k : ℕ). raised_times 1 k) invariant.made ∙ raised_more c.loop-node.node (g.S.PluginSet.made c.args.set.now);
      ended = then.kept ∙ invariant.ended;
      work = then.work ∙ invariant.work;
      infos = then.infos ∙ invariant.infos;
      codes = λ class. then.codes class ∙ invariant.codes class;
    }

pub returns-clause-controllers : goal.returns-clause-controllers
returns-clause-controllers g c = λ max.
    let meant : ControllerMeaning g.row.S-C.Denot = record { code = g.S.C.Controller.code; values = g.S.C.Controller.values; mode = g.S.C.Controller.mode } in
    let plan : ℕ → Plan = λ m. plan_for (g.S.PluginSet.infos c.args.set.now) (g.S.PluginSet.code c.args.set.now) g.S.P.Processor.class_of c.args.session.now c.args.presets.now m in
    let all : c.loop-node.node ≡ length (nodes_of c.args.session.now.nodes) = omega (arith, c.len-count.ensures.count, c.loop-node-test.false, c.loop-node.auto.node-end) in
    subst (λ (n : ℕ). AreControllers meant (plan max) n c.loop-node.controllers.items c.loop-node.edits.items c.loop-node.holders.items) all (c.loop-node.invariant.controllers max)

pub returns-clause-accepted : goal.returns-clause-accepted
returns-clause-accepted g c = λ max.
    let all : c.loop-node.node ≡ length (nodes_of c.args.session.now.nodes) = omega (arith, c.len-count.ensures.count, c.loop-node-test.false, c.loop-node.auto.node-end) in
    let plan : Plan = plan_for (g.S.PluginSet.infos c.args.set.now) (g.S.PluginSet.code c.args.set.now) g.S.P.Processor.class_of c.args.session.now c.args.presets.now max in
    subst (λ (n : ℕ). AreAccepted plan n) all (c.loop-node.invariant.accepted max)

pub returns-clause-made : goal.returns-clause-made
returns-clause-made g c =
    let all : c.loop-node.node ≡ length (nodes_of c.args.session.now.nodes) = omega (arith, c.len-count.ensures.count, c.loop-node-test.false, c.loop-node.auto.node-end) in
    c.loop-node.invariant.made ∙ ap (λ (n : ℕ). raised_times n (g.S.PluginSet.made c.args.set.now)) all

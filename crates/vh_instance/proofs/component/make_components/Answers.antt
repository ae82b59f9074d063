use Rattle.std.proofs.Common.{◌≡◌, ℕ, ◌+◌, ◌<◌, List, [], ◌∷◌, ◌++◌, length, refl, sym, ap, subst, ◌∙◌, arith}
use Rattle.vh_counted.specs.declared.object.Counted.{Counted}
use Rattle.vh_counted.specs.declared.object.Opened.{Opened}
use Rattle.vh_counted.specs.Held.{value_of_opened}
use Rattle.vh_component.specs.declared.states.Processing.{Processing}
use Rattle.vh_params.specs.Nodes.{nodes_of}
use Rattle.vh_instance.specs.Raised.{raised_times, raised_by_each, IsUndone}
use Rattle.vh_instance.specs.Plan.{Plan, plan_for, code_at}
use Rattle.vh_instance.specs.Firsts.{firsts_at}
use Rattle.vh_instance.specs.Band.{ProcessorMeaning, of_processors, AreComponents}
use Rattle.vh_instance.proofs.Classes.{suits_too}
use Rattle.vh_instance.proofs.Nodes.{as_many, at_node, one_after_other, params_alike}
use Rattle.vh_instance.proofs.Counting.{on_err, undone_none, undone_components, raised_more}
use Rattle.vh_instance.proofs.Ends.{processors_size}
use Rattle.vh_instance.proofs.Grown.{begun_components_at, grown_components, code_same, firsts_same, refusal_same}
use Rattle.vh_instance.proofs.component.make_components.Goals as goal

pub returns-in_err-first-clause-refused : goal.returns-in_err-first-clause-refused
returns-in_err-first-clause-refused g c = on_err c.from_residual.result (IsUndone (g.S.PluginSet.made c.args.set.now) (g.S.PluginSet.ended c.args.set.now) (g.S.PluginSet.work c.args.set.now) (g.S.PluginSet.made c.args.set.now) (g.S.PluginSet.ended c.args.set.now) (g.S.PluginSet.work c.args.set.now)) (undone_none (g.S.PluginSet.made c.args.set.now) (g.S.PluginSet.ended c.args.set.now) (g.S.PluginSet.work c.args.set.now))

pub returns-in_err-components-clause-refused : goal.returns-in_err-components-clause-refused
returns-in_err-components-clause-refused g c = on_err c.from_residual-in_err-components.result (IsUndone (g.S.PluginSet.made c.args.set.now) (g.S.PluginSet.ended c.args.set.now) (g.S.PluginSet.work c.args.set.now) (g.S.PluginSet.made c.args.set.now) (g.S.PluginSet.ended c.args.set.now) (g.S.PluginSet.work c.args.set.now)) (undone_none (g.S.PluginSet.made c.args.set.now) (g.S.PluginSet.ended c.args.set.now) (g.S.PluginSet.work c.args.set.now))

pub loop-node-init : goal.loop-node-init
loop-node-init g c =
    let meant : ProcessorMeaning g.row.S-P.Denot = record { code = g.S.P.Processor.code; values = g.S.P.Processor.values; state = g.S.P.Processor.state; calls = g.S.P.Processor.calls; phase = g.S.P.Life.phase; setup = g.S.P.Life.last_setup } in
    let plan : Plan = plan_for (g.S.PluginSet.infos c.args.set.now) (g.S.PluginSet.code c.args.set.now) g.S.P.Processor.class_of c.args.session.now c.args.presets.now c.args.max in
    record {
      components = begun_components_at meant plan c.in_ok-components.components.items c.in-Ok.processors.items c.in_ok-components.ensures.items c.in-Ok.ensures.items;
      places = c.in_ok-components.ensures.exact;
      more_places = c.in-Ok.ensures.exact;
      made = refl;
      ended = refl;
      work = refl;
      infos = refl;
      codes = λ class. refl;
    }

pub values_of-requires : goal.values_of-requires
values_of-requires g c =
    let plan : Plan = plan_for (g.S.PluginSet.infos c.args.set.now) (g.S.PluginSet.code c.args.set.now) g.S.P.Processor.class_of c.args.session.now c.args.presets.now c.args.max in
    params_alike (λ (edit : Opened g.row.S-C.Denot). g.S.C.Controller.code (value_of_opened edit)) c.args.edits.now g.S.C.Controller.class_of (code_at plan) (nodes_of c.args.session.now.nodes) c.requires.codes
    (λ node lt. suits_too plan c.requires.stands node lt g.S.C.Controller.class_of (λ class d within. g.met.S.PluginSet.controllers c.args.set.now class d within))

pub offset_bounds-edits-node : goal.offset_bounds-edits-node
offset_bounds-edits-node g c =
    let plan : Plan = plan_for (g.S.PluginSet.infos c.args.set.now) (g.S.PluginSet.code c.args.set.now) g.S.P.Processor.class_of c.args.session.now c.args.presets.now c.args.max in
    let many = as_many (λ (edit : Opened g.row.S-C.Denot). g.S.C.Controller.code (value_of_opened edit)) c.args.edits.now (code_at plan) (length (nodes_of c.args.session.now.nodes)) c.requires.codes in
    omega (arith, many, c.len-count.ensures.count, c.loop-node-test.true)

pub bounds-edits-node : goal.bounds-edits-node
bounds-edits-node g c =
    let plan : Plan = plan_for (g.S.PluginSet.infos c.args.set.now) (g.S.PluginSet.code c.args.set.now) g.S.P.Processor.class_of c.args.session.now c.args.presets.now c.args.max in
    let many = as_many (λ (edit : Opened g.row.S-C.Denot). g.S.C.Controller.code (value_of_opened edit)) c.args.edits.now (code_at plan) (length (nodes_of c.args.session.now.nodes)) c.requires.codes in
    omega (arith, many, c.len-count.ensures.count, c.loop-node-test.true)

pub make_component-requires-clause-accepted : goal.make_component-requires-clause-accepted
make_component-requires-clause-accepted g c κs within =
    let lt : c.loop-node.node < length (nodes_of c.args.session.now.nodes) = omega (arith, c.len-count.ensures.count, c.loop-node-test.true) in
    refusal_same c.args.session.now c.args.presets.now (g.S.PluginSet.infos c.args.set.now) (g.S.PluginSet.infos c.loop-node.set) (g.S.PluginSet.code c.args.set.now) (g.S.PluginSet.code c.loop-node.set) g.S.P.Processor.class_of c.args.max c.loop-node.invariant.infos c.loop-node.invariant.codes c.loop-node.node
    ∙ c.requires.accepted c.loop-node.node lt

pub make_component-requires-clause-code : goal.make_component-requires-clause-code
make_component-requires-clause-code g c κs within =
    let plan : Plan = plan_for (g.S.PluginSet.infos c.args.set.now) (g.S.PluginSet.code c.args.set.now) g.S.P.Processor.class_of c.args.session.now c.args.presets.now c.args.max in
    let lt : c.loop-node.node < length (nodes_of c.args.session.now.nodes) = omega (arith, c.len-count.ensures.count, c.loop-node-test.true) in
    ap g.S.C.Controller.code c.value-controller.ensures
    ∙ at_node (λ (edit : Opened g.row.S-C.Denot). g.S.C.Controller.code (value_of_opened edit)) c.args.edits.now (code_at plan) (length (nodes_of c.args.session.now.nodes)) c.loop-node.node c.index-edits-node.result c.requires.codes lt c.index-edits-node.is
    ∙ sym (code_same c.args.session.now c.args.presets.now (g.S.PluginSet.infos c.args.set.now) (g.S.PluginSet.infos c.loop-node.set) (g.S.PluginSet.code c.args.set.now) (g.S.PluginSet.code c.loop-node.set) g.S.P.Processor.class_of c.args.max c.loop-node.invariant.infos c.loop-node.invariant.codes c.loop-node.node)

pub make_component-requires-clause-values : goal.make_component-requires-clause-values
make_component-requires-clause-values g c κs within =
    let plan : Plan = plan_for (g.S.PluginSet.infos c.args.set.now) (g.S.PluginSet.code c.args.set.now) g.S.P.Processor.class_of c.args.session.now c.args.presets.now c.args.max in
    let lt : c.loop-node.node < length (nodes_of c.args.session.now.nodes) = omega (arith, c.len-count.ensures.count, c.loop-node-test.true) in
    ap g.S.C.Controller.values c.value-controller.ensures
    ∙ at_node (λ (edit : Opened g.row.S-C.Denot). g.S.C.Controller.values (value_of_opened edit)) c.args.edits.now (firsts_at plan) (length (nodes_of c.args.session.now.nodes)) c.loop-node.node c.index-edits-node.result c.requires.values lt c.index-edits-node.is
    ∙ sym (firsts_same c.args.session.now c.args.presets.now (g.S.PluginSet.infos c.args.set.now) (g.S.PluginSet.infos c.loop-node.set) (g.S.PluginSet.code c.args.set.now) (g.S.PluginSet.code c.loop-node.set) g.S.P.Processor.class_of c.args.max c.loop-node.invariant.infos c.loop-node.invariant.codes c.loop-node.node)

pub returns-in-Err-make_component-clause-codes : goal.returns-in-Err-make_component-clause-codes
returns-in-Err-make_component-clause-codes g c = λ class. c.end_components.ensures.codes class ∙ c.in-Err-make_component.ensures.codes class ∙ c.loop-node.invariant.codes class

pub returns-clause-first : goal.returns-clause-first
returns-clause-first g c =
    let plan : Plan = plan_for (g.S.PluginSet.infos c.args.set.now) (g.S.PluginSet.code c.args.set.now) g.S.P.Processor.class_of c.args.session.now c.args.presets.now c.args.max in
    c.in_ok-first.ensures ∙ one_after_other (λ (edit : Opened g.row.S-C.Denot). g.S.C.Controller.values (value_of_opened edit)) c.args.edits.now (firsts_at plan) (length (nodes_of c.args.session.now.nodes)) c.requires.values

pub push_reserved-requires-in-Ok-make_component : goal.push_reserved-requires-in-Ok-make_component
push_reserved-requires-in-Ok-make_component g c =
    let are = c.loop-node.invariant.components in
    let size = processors_size c.loop-node.components.items c.loop-node.processors.items are.held in
    omega (arith, size, are.size, c.loop-node.processors.ok.0, c.loop-node.invariant.more_places, c.loop-node-test.true)

pub returns-in-Err-make_component-clause-refused : goal.returns-in-Err-make_component-clause-refused
returns-in-Err-make_component-clause-refused g c =
    let invariant = c.loop-node.invariant in
    let are = invariant.components in
    let calls : List ℕ = of_processors g.S.P.Processor.calls c.loop-node.processors.items in
    let then = c.in-Err-make_component.ensures in
    let ended = c.end_components.ensures in
    undone_components c.loop-node.node calls (g.S.PluginSet.made c.args.set.now) (g.S.PluginSet.ended c.args.set.now) (g.S.PluginSet.work c.args.set.now) (g.S.PluginSet.made c.end_components.new.set) (g.S.PluginSet.ended c.end_components.new.set) (g.S.PluginSet.work c.end_components.new.set) are.calls
    (ended.made ∙ then.unmade ∙ invariant.made)
    (ended.ended ∙ ap (λ (n : ℕ). raised_times n (g.S.PluginSet.ended c.make_component.new.set)) are.size ∙ ap (λ (k : ℕ). raised_times c.loop-node.node k) (then.ended ∙ invariant.ended))
    (ended.work ∙ ap (λ (k : ℕ). raised_by_each calls k) (then.work ∙ invariant.work))

pub loop-node-preserved : goal.loop-node-preserved
loop-node-preserved g c =
    let meant : ProcessorMeaning g.row.S-P.Denot = record { code = g.S.P.Processor.code; values = g.S.P.Processor.values; state = g.S.P.Processor.state; calls = g.S.P.Processor.calls; phase = g.S.P.Life.phase; setup = g.S.P.Life.last_setup } in
    let plan : Plan = plan_for (g.S.PluginSet.infos c.args.set.now) (g.S.PluginSet.code c.args.set.now) g.S.P.Processor.class_of c.args.session.now c.args.presets.now c.args.max in
    let invariant = c.loop-node.invariant in
    let then = c.in-Ok-make_component.ensures in
    let session = c.args.session.now in
    let grown = grown_components session c.args.presets.now (g.S.PluginSet.infos c.args.set.now) (g.S.PluginSet.infos c.loop-node.set) (g.S.PluginSet.code c.args.set.now) (g.S.PluginSet.code c.loop-node.set) g.S.P.Processor.class_of c.args.max invariant.infos invariant.codes meant c.loop-node.node
    c.loop-node.components.items c.loop-node.processors.items c.in-Ok-make_component.object c.in-Ok-make_component.processor invariant.components then.component in
    record {
      components = subst (λ (cs : List (Counted g.row.S-P.Denot)). AreComponents meant plan (c.loop-node.node + 1) cs c.push_reserved-in-Ok-make_component.new.self.items) (sym c.push_reserved.ensures.items)
          (subst (λ (ps : List (Processing g.row.S-P.Denot)). AreComponents meant plan (c.loop-node.node + 1) (c.loop-node.components.items ++ c.in-Ok-make_component.object ∷ []) ps) (sym c.push_reserved-in-Ok-make_component.ensures.items) grown);
      places = c.push_reserved.ensures.capacity ∙ invariant.places;
      more_places = c.push_reserved-in-Ok-make_component.ensures.capacity ∙ invariant.more_places;
      made = then.made ∙ ap (λ (k : ℕ). raised_times 1 k) invariant.made ∙ raised_more c.loop-node.node (g.S.PluginSet.made c.args.set.now);
      ended = then.ended ∙ invariant.ended;
      work = then.work ∙ invariant.work;
      infos = then.infos ∙ invariant.infos;
      codes = λ class. then.codes class ∙ invariant.codes class;
    }

pub returns-clause-components : goal.returns-clause-components
returns-clause-components g c =
    let meant : ProcessorMeaning g.row.S-P.Denot = record { code = g.S.P.Processor.code; values = g.S.P.Processor.values; state = g.S.P.Processor.state; calls = g.S.P.Processor.calls; phase = g.S.P.Life.phase; setup = g.S.P.Life.last_setup } in
    let plan : Plan = plan_for (g.S.PluginSet.infos c.args.set.now) (g.S.PluginSet.code c.args.set.now) g.S.P.Processor.class_of c.args.session.now c.args.presets.now c.args.max in
    let all : c.loop-node.node ≡ length (nodes_of c.args.session.now.nodes) = omega (arith, c.len-count.ensures.count, c.loop-node-test.false, c.loop-node.auto.node-end) in
    subst (λ (n : ℕ). AreComponents meant plan n c.loop-node.components.items c.loop-node.processors.items) all c.loop-node.invariant.components

pub returns-clause-made : goal.returns-clause-made
returns-clause-made g c =
    let all : c.loop-node.node ≡ length (nodes_of c.args.session.now.nodes) = omega (arith, c.len-count.ensures.count, c.loop-node-test.false, c.loop-node.auto.node-end) in
    c.loop-node.invariant.made ∙ ap (λ (n : ℕ). raised_times n (g.S.PluginSet.made c.args.set.now)) all

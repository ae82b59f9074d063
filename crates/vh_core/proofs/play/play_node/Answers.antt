use Rattle.std.proofs.Common.{◌≡◌, ◌∙◌, ℕ, true, false, length, Vec, ℤ, sym, ap, arith}
use Rattle.std.specs.Vec.{with_items}
use Rattle.std.specs.declared.alloc.Global.{Global}
use Rattle.std.proofs.lemmas.List.{with_items_is, length-map}
use Rattle.std.proofs.lemmas.Bool.{and_parts, leb-true}
use Rattle.vh_component.specs.declared.setup.Setup.{Setup}
use Rattle.vh_params.specs.Nodes.{nodes_of, node_at}
use Rattle.vh_points.specs.Model.{queues_of}
use Rattle.vh_plugin.specs.Class.{param_of}
use Rattle.vh_session.specs.Names.{content_of}
use Rattle.vh_session.specs.declared.wire.End.TheVariants.{Node as AtNode}
use Rattle.vh_meaning.specs.Mix.{arriving, mix, main_mix}
use Rattle.vh_meaning.specs.World.{silence}
use Rattle.vh_core.specs.Stage.{frames_in, values_in}
use Rattle.vh_core.proofs.Alone.{aux_samples, node_output, node_state, mixed_here, aux_here}
use Rattle.vh_core.proofs.Rooms.{row_at, row_other, row_is, room_with_frame}
use Rattle.vh_core.proofs.play.play_node.Goals as goal

pub process-requires-clause-out : goal.process-requires-clause-out
process-requires-clause-out g c =
    let room = c.args.room.now in
    let count = c.requires.room.frames in
    let there = c.requires.node in
    let same = ap (λ (s : Setup). s.channels) c.set_first.ensures.setup ∙ c.requires.player.channels_are in
    let long = ap length c.deref_mut-3.ensures.value ∙ ap (λ (v : Vec ℤ Global). length v.items) c.index_mut-frame.ensures.value
    ∙ ap length (row_is room.frames.items c.args.node _ (omega (arith, count, there))) ∙ c.requires.room.wide c.args.node there in
    omega (arith, same, long)

pub returns-clause-others : goal.returns-clause-others
returns-clause-others g c = λ other apart. row_other c.args.room.now.frames.items c.args.node other (with_items c.index_mut-frame.result.now c.process.new.out) apart

pub returns-clause-frame : goal.returns-clause-frame
returns-clause-frame g c =
    let session = c.args.session.now in
    let room = c.args.room.now in
    let node = c.args.node in
    let there = c.requires.node in
    let count = c.requires.room.frames in
    let rows = c.requires.room.values in
    let class = g.P.Processor.class_of (g.P.Processor.code c.args.processor.now) in
    let before = g.P.Processor.state c.args.processor.now in
    let given = values_in room.values.items node in
    let set = c.set_first.new.self in
    let quiet = silence session.channels in
    let within = and_parts _ _ session.keeps.channels in
    let mixed : c.mix.new.out ≡ main_mix session.channels session.wires.items quiet (frames_in room.frames.items) (AtNode node) =
    mixed_here session.wires.items c.deref.result.now quiet c.deref-2.result.now c.deref-3.result.now room.frames.items (AtNode node) false session.channels c.deref_mut.result.now c.mix.new.out
    c.deref.ensures.value (c.deref-2.ensures.value ∙ c.requires.plan.input) c.deref-3.ensures.value (ap length c.deref_mut.ensures.value ∙ c.requires.room.main) c.mix.ensures in
    let main : c.deref-10.result.now ≡ main_mix session.channels session.wires.items quiet (frames_in room.frames.items) (AtNode node) =
    c.deref-10.ensures.value ∙ with_items_is room.main c.mix.new.out (c.mix.auto.out ∙ c.deref_mut.ensures.len) ∙ mixed in
    let second : c.mix-2.new.out ≡ mix session.channels (arriving session.wires.items quiet (frames_in room.frames.items) (AtNode node) true) =
    mixed_here session.wires.items c.deref-4.result.now quiet c.deref-5.result.now c.deref-6.result.now room.frames.items (AtNode node) true session.channels c.deref_mut-2.result.now c.mix-2.new.out
    c.deref-4.ensures.value (c.deref-5.ensures.value ∙ c.requires.plan.input) c.deref-6.ensures.value (ap length c.deref_mut-2.ensures.value ∙ c.requires.room.aux) c.mix-2.ensures in
    let bus : c.aux_of-aux.result.now ≡ aux_samples session.channels session.wires.items quiet (frames_in room.frames.items) (AtNode node) =
    aux_here session.wires.items c.deref-7.result.now quiet (frames_in room.frames.items) (AtNode node) session.channels c.mix-2.new.out c.deref-8.result.now c.aux_of-aux.result.now
    c.deref-7.ensures.value (c.deref-8.ensures.value ∙ with_items_is room.aux c.mix-2.new.out (c.mix-2.auto.out ∙ c.deref_mut-2.ensures.len)) second c.aux_of-aux.ensures in
    let values : g.P.Processor.values set ≡ given =
    c.set_first.ensures.values ∙ c.deref-9.ensures.value ∙ ap (λ (v : Vec ℕ Global). v.items) c.index.ensures ∙ row_is room.values.items node _ (omega (arith, rows, there)) in
    let each : length given ≡ length class.params =
    c.requires.room.each node there ∙ sym (ap length c.requires.player.params_are ∙ length-map (node_at (nodes_of session.nodes) node).params param_of) in
    let codes : g.P.Processor.class_of (g.P.Processor.code set) ≡ class = ap g.P.Processor.class_of c.set_first.ensures.code in
    let wide : (g.P.Life.last_setup set).channels ≡ session.channels = ap (λ (s : Setup). s.channels) c.set_first.ensures.setup ∙ c.requires.player.channels_are in
    let row = c.index_mut-frame.result.now in
    row_at room.frames.items node (with_items row c.process.new.out) (omega (arith, count, there))
    ∙ with_items_is row c.process.new.out (c.process.auto.out ∙ c.deref_mut-3.ensures.len)
    ∙ node_output (g.P.Processor.class_of (g.P.Processor.code set)) class (g.P.Processor.state set) before (g.P.Life.last_setup set).channels session.channels (queues_of c.args.plan.now.points) (g.P.Processor.values set) given
    c.deref-10.result.now c.aux_of-aux.result.now session.wires.items quiet (frames_in room.frames.items) (AtNode node) codes c.set_first.ensures.state wide c.requires.plan.points values each (leb-true 1 session.channels within.0) main bus
    c.process.new.out c.process.ensures.out

pub returns-clause-state : goal.returns-clause-state
returns-clause-state g c =
    let session = c.args.session.now in
    let room = c.args.room.now in
    let node = c.args.node in
    let there = c.requires.node in
    let count = c.requires.room.frames in
    let rows = c.requires.room.values in
    let class = g.P.Processor.class_of (g.P.Processor.code c.args.processor.now) in
    let before = g.P.Processor.state c.args.processor.now in
    let given = values_in room.values.items node in
    let set = c.set_first.new.self in
    let quiet = silence session.channels in
    let within = and_parts _ _ session.keeps.channels in
    let mixed : c.mix.new.out ≡ main_mix session.channels session.wires.items quiet (frames_in room.frames.items) (AtNode node) =
    mixed_here session.wires.items c.deref.result.now quiet c.deref-2.result.now c.deref-3.result.now room.frames.items (AtNode node) false session.channels c.deref_mut.result.now c.mix.new.out
    c.deref.ensures.value (c.deref-2.ensures.value ∙ c.requires.plan.input) c.deref-3.ensures.value (ap length c.deref_mut.ensures.value ∙ c.requires.room.main) c.mix.ensures in
    let main : c.deref-10.result.now ≡ main_mix session.channels session.wires.items quiet (frames_in room.frames.items) (AtNode node) =
    c.deref-10.ensures.value ∙ with_items_is room.main c.mix.new.out (c.mix.auto.out ∙ c.deref_mut.ensures.len) ∙ mixed in
    let second : c.mix-2.new.out ≡ mix session.channels (arriving session.wires.items quiet (frames_in room.frames.items) (AtNode node) true) =
    mixed_here session.wires.items c.deref-4.result.now quiet c.deref-5.result.now c.deref-6.result.now room.frames.items (AtNode node) true session.channels c.deref_mut-2.result.now c.mix-2.new.out
    c.deref-4.ensures.value (c.deref-5.ensures.value ∙ c.requires.plan.input) c.deref-6.ensures.value (ap length c.deref_mut-2.ensures.value ∙ c.requires.room.aux) c.mix-2.ensures in
    let bus : c.aux_of-aux.result.now ≡ aux_samples session.channels session.wires.items quiet (frames_in room.frames.items) (AtNode node) =
    aux_here session.wires.items c.deref-7.result.now quiet (frames_in room.frames.items) (AtNode node) session.channels c.mix-2.new.out c.deref-8.result.now c.aux_of-aux.result.now
    c.deref-7.ensures.value (c.deref-8.ensures.value ∙ with_items_is room.aux c.mix-2.new.out (c.mix-2.auto.out ∙ c.deref_mut-2.ensures.len)) second c.aux_of-aux.ensures in
    let values : g.P.Processor.values set ≡ given =
    c.set_first.ensures.values ∙ c.deref-9.ensures.value ∙ ap (λ (v : Vec ℕ Global). v.items) c.index.ensures ∙ row_is room.values.items node _ (omega (arith, rows, there)) in
    let each : length given ≡ length class.params =
    c.requires.room.each node there ∙ sym (ap length c.requires.player.params_are ∙ length-map (node_at (nodes_of session.nodes) node).params param_of) in
    let codes : g.P.Processor.class_of (g.P.Processor.code set) ≡ class = ap g.P.Processor.class_of c.set_first.ensures.code in
    let wide : (g.P.Life.last_setup set).channels ≡ session.channels = ap (λ (s : Setup). s.channels) c.set_first.ensures.setup ∙ c.requires.player.channels_are in
    node_state (g.P.Processor.class_of (g.P.Processor.code set)) class (g.P.Processor.state set) before (g.P.Life.last_setup set).channels session.channels (queues_of c.args.plan.now.points) (g.P.Processor.values set) given
    c.deref-10.result.now c.aux_of-aux.result.now session.wires.items quiet (frames_in room.frames.items) (AtNode node) codes c.set_first.ensures.state wide c.requires.plan.points values each (leb-true 1 session.channels within.0) main bus
    (g.P.Processor.state c.process.new.self) c.process.ensures.state

pub returns-clause-room : goal.returns-clause-room
returns-clause-room g c =
    let room = c.args.room.now in
    let count = c.requires.room.frames in
    let there = c.requires.node in
    let row = c.index_mut-frame.result.now in
    let long = ap length c.deref_mut-3.ensures.value ∙ ap (λ (v : Vec ℤ Global). length v.items) c.index_mut-frame.ensures.value
    ∙ ap length (row_is room.frames.items c.args.node _ (omega (arith, count, there))) ∙ c.requires.room.wide c.args.node there in
    room_with_frame (content_of c.args.session.now) room c.args.node (with_items row c.process.new.out) (with_items room.main c.mix.new.out) (with_items room.aux c.mix-2.new.out) c.requires.room there
    (ap length (with_items_is row c.process.new.out (c.process.auto.out ∙ c.deref_mut-3.ensures.len)) ∙ c.process.auto.out ∙ long)
    (ap length (with_items_is room.main c.mix.new.out (c.mix.auto.out ∙ c.deref_mut.ensures.len)) ∙ c.mix.auto.out ∙ ap length c.deref_mut.ensures.value ∙ c.requires.room.main)
    (ap length (with_items_is room.aux c.mix-2.new.out (c.mix-2.auto.out ∙ c.deref_mut-2.ensures.len)) ∙ c.mix-2.auto.out ∙ ap length c.deref_mut-2.ensures.value ∙ c.requires.room.aux)

use Rattle.std.proofs.Common.{◌≡◌, ◌∙◌, ◌<◌, ◌+◌, ◌++◌, [], ℕ, false, List, length, ℤ, ap, subst, arith}
use Rattle.std.specs.Vec.{with_items}
use Rattle.std.proofs.lemmas.List.{length-map, with_items_is}
use Rattle.vh_params.specs.Nodes.{nodes_of}
use Rattle.vh_session.specs.Names.{content_of}
use Rattle.vh_session.specs.declared.wire.End.TheVariants.{Out}
use Rattle.vh_meaning.specs.Scene.{node_count}
use Rattle.vh_meaning.specs.Values.{values_at}
use Rattle.vh_meaning.specs.Mix.{arriving, mix}
use Rattle.vh_meaning.specs.Frames.{stepped}
use Rattle.vh_meaning.specs.Trace.{IsConsistent}
use Rattle.vh_meaning.specs.World.{silence, world, after}
use Rattle.vh_meaning.specs.Laws.{HasOrder}
use Rattle.vh_core.specs.State.{Setting, scene_in}
use Rattle.vh_core.specs.Playing.{HaveStates, setting_by}
use Rattle.vh_core.specs.Stage.{frames_in, values_in}
use Rattle.vh_core.proofs.Alone.{mixed_here}
use Rattle.vh_core.proofs.Players.{alike_more, alike_long, players_on, setting_on, classes_are, states_same}
use Rattle.vh_core.proofs.Rooms.{room_with_main}
use Rattle.vh_core.proofs.Samples.{world_next, out_is, wires_from, order_here}
use Rattle.vh_core.proofs.play.play_sample.Goals as goal

pub play_nodes-requires-clause-players : goal.play_nodes-requires-clause-players
play_nodes-requires-clause-players g c =
    players_on g.P.Processor.class_of g.P.Processor.code g.P.Life.phase g.P.Life.last_setup (content_of c.args.session.now) c.args.processors.now c.give_messages.new.processors c.requires.players c.give_messages.ensures.alike

pub returns-clause-states : goal.returns-clause-states
returns-clause-states g c =
    let session = content_of c.args.session.now in
    let h = c.args.journal.now in
    let s = c.args.sample in
    let firsts = c.args.plan.now.firsts.items in
    let old = c.args.processors.now in
    let mid = c.give_messages.new.processors in
    let scene = scene_in (setting_by g.P.Processor.class_of g.P.Processor.code session firsts old) in
    let states = after scene [] h s in
    let quiet = silence session.channels in
    let values = values_in c.set_values.new.room.values.items in
    let frames = frames_in c.play_nodes.new.room.frames.items in
    let same : setting_by g.P.Processor.class_of g.P.Processor.code session firsts mid ≡ setting_by g.P.Processor.class_of g.P.Processor.code session firsts old =
    setting_on g.P.Processor.class_of g.P.Processor.code g.P.Life.phase g.P.Life.last_setup session firsts old mid c.give_messages.ensures.alike in
    let have : HaveStates g.P.Processor.state mid states = c.give_messages.ensures.states (world scene [] h s) c.requires.states in
    let fits : IsConsistent scene states values quiet frames =
    subst (λ (t : Setting). IsConsistent (scene_in t) states values quiet frames) same (c.play_nodes.ensures.consistent states have) in
    let codes = length-map old g.P.Processor.code in
    let long = c.requires.players.long in
    let valued : (node : ℕ) → node < node_count scene → values node ≡ values_at scene h s node =
    λ node lt. c.set_values.ensures.values g.P.Processor.class_of _ (classes_are g.P.Processor.class_of g.P.Processor.code g.P.Life.phase g.P.Life.last_setup session old c.requires.players) node (omega (arith, lt, codes, long)) in
    let order : HasOrder scene = order_here (length (nodes_of c.args.session.now.nodes)) scene c.args.plan.now.order.items (codes ∙ long) c.requires.plan.order in
    let moved : HaveStates g.P.Processor.state c.play_nodes.new.processors (stepped scene states values quiet frames) =
    subst (λ (t : Setting). HaveStates g.P.Processor.state c.play_nodes.new.processors (stepped (scene_in t) states values quiet frames)) same (c.play_nodes.ensures.states states have) in
    let size = alike_long g.P.Processor.code g.P.Life.phase g.P.Life.last_setup old mid c.give_messages.ensures.alike in
    let last = alike_long g.P.Processor.code g.P.Life.phase g.P.Life.last_setup mid c.play_nodes.new.processors c.play_nodes.ensures.alike in
    states_same g.P.Processor.state c.play_nodes.new.processors (stepped scene states values quiet frames) (world scene [] h (s + 1))
    (λ node lt. world_next scene h s c.interchange.ensures order values frames valued fits node (omega (arith, lt, size, last, codes))) moved

pub returns-clause-frames : goal.returns-clause-frames
returns-clause-frames g c =
    let session = content_of c.args.session.now in
    let h = c.args.journal.now in
    let s = c.args.sample in
    let firsts = c.args.plan.now.firsts.items in
    let old = c.args.processors.now in
    let mid = c.give_messages.new.processors in
    let scene = scene_in (setting_by g.P.Processor.class_of g.P.Processor.code session firsts old) in
    let states = after scene [] h s in
    let quiet = silence session.channels in
    let values = values_in c.set_values.new.room.values.items in
    let frames = frames_in c.play_nodes.new.room.frames.items in
    let same : setting_by g.P.Processor.class_of g.P.Processor.code session firsts mid ≡ setting_by g.P.Processor.class_of g.P.Processor.code session firsts old =
    setting_on g.P.Processor.class_of g.P.Processor.code g.P.Life.phase g.P.Life.last_setup session firsts old mid c.give_messages.ensures.alike in
    let have : HaveStates g.P.Processor.state mid states = c.give_messages.ensures.states (world scene [] h s) c.requires.states in
    let fits : IsConsistent scene states values quiet frames =
    subst (λ (t : Setting). IsConsistent (scene_in t) states values quiet frames) same (c.play_nodes.ensures.consistent states have) in
    let codes = length-map old g.P.Processor.code in
    let long = c.requires.players.long in
    let valued : (node : ℕ) → node < node_count scene → values node ≡ values_at scene h s node =
    λ node lt. c.set_values.ensures.values g.P.Processor.class_of _ (classes_are g.P.Processor.class_of g.P.Processor.code g.P.Life.phase g.P.Life.last_setup session old c.requires.players) node (omega (arith, lt, codes, long)) in
    let order : HasOrder scene = order_here (length (nodes_of c.args.session.now.nodes)) scene c.args.plan.now.order.items (codes ∙ long) c.requires.plan.order in
    let room = c.play_nodes.new.room in
    let mixed : c.mix.new.out ≡ mix session.channels (arriving session.wires quiet frames Out false) =
    mixed_here session.wires c.deref.result.now quiet c.deref-2.result.now c.deref-3.result.now room.frames.items Out false session.channels c.deref_mut.result.now c.mix.new.out
    c.deref.ensures.value (c.deref-2.ensures.value ∙ c.requires.plan.input) c.deref-3.ensures.value (ap length c.deref_mut.ensures.value ∙ c.play_nodes.ensures.room.main) c.mix.ensures in
    c.put_frame.ensures.items
    ∙ ap (λ (l : List ℤ). c.args.frames.now.items ++ l)
    (c.deref-4.ensures.value ∙ with_items_is room.main c.mix.new.out (c.mix.auto.out ∙ c.deref_mut.ensures.len) ∙ mixed
    ∙ out_is scene h s c.interchange.ensures order values frames valued fits c.out_from_frames.ensures (wires_from c.args.session.now (node_count scene) (codes ∙ long)))

pub returns-clause-alike : goal.returns-clause-alike
returns-clause-alike g c =
    alike_more g.P.Processor.code g.P.Life.phase g.P.Life.last_setup c.args.processors.now c.give_messages.new.processors c.play_nodes.new.processors c.give_messages.ensures.alike c.play_nodes.ensures.alike

pub returns-clause-room : goal.returns-clause-room
returns-clause-room g c =
    let main = c.play_nodes.new.room.main in
    room_with_main (content_of c.args.session.now) c.play_nodes.new.room (with_items main c.mix.new.out) c.play_nodes.ensures.room
    (ap length (with_items_is main c.mix.new.out (c.mix.auto.out ∙ c.deref_mut.ensures.len)) ∙ c.mix.auto.out ∙ ap length c.deref_mut.ensures.value ∙ c.play_nodes.ensures.room.main)

use Rattle.std.proofs.Common.{◌≡◌, ◌∙◌, ◌<◌, ℕ, List, length, get_or, set, take, Vec, sym, ap, subst, arith}
use Rattle.std.specs.declared.alloc.Global.{Global}
use Rattle.std.proofs.lemmas.List.{get_or_default}
use Rattle.vh_params.specs.Nodes.{nodes_of}
use Rattle.vh_session.specs.Content.{node_wires}
use Rattle.vh_session.specs.Names.{content_of}
use Rattle.vh_session.specs.declared.wire.End.TheVariants.{Node as AtNode}
use Rattle.vh_meaning.specs.Mix.{main_mix, aux_mix}
use Rattle.vh_meaning.specs.World.{silence}
use Rattle.vh_core.specs.Stage.{frames_in, values_in}
use Rattle.vh_core.proofs.Players.{alike_long, players_on}
use Rattle.vh_core.proofs.Turns.{ArePlayed, at_place, all_stand, HasTurned, played_more, fit_together, all_moved}
use Rattle.vh_core.proofs.play.play_nodes.Goals as goal

pub play_node-requires-clause-player : goal.play_node-requires-clause-player
play_node-requires-clause-player g c =
    let session = content_of c.args.session.now in
    let order = c.deref-node-items.result.now in
    let place = c.loop-node.node-index in
    let node = get_or order place 0 in
    let here = at_place (length (nodes_of c.args.session.now.nodes)) (node_wires session.wires) order place node c.loop-node-test.true (get_or_default order place 0 node c.loop-node-test.true) c.loop-node.invariant.order in
    let within = here.ready.within in
    let players = players_on g.P.Processor.class_of g.P.Processor.code g.P.Life.phase g.P.Life.last_setup session c.args.processors.now c.loop-node.processors c.requires.players c.loop-node.invariant.played.alike in
    let long = players.long in
    players.each node c.index-processors-node.result (omega (arith, within, long))

pub loop-node-preserved : goal.loop-node-preserved
loop-node-preserved g c =
    let session = content_of c.args.session.now in
    let count = length (nodes_of c.args.session.now.nodes) in
    let order = c.deref-node-items.result.now in
    let place = c.loop-node.node-index in
    let node = get_or order place 0 in
    let processors = c.loop-node.processors in
    let before = get_or processors node c.index-processors-node.result in
    let after = c.play_node.new.processor in
    let here = at_place count (node_wires session.wires) order place node c.loop-node-test.true (get_or_default order place 0 node c.loop-node-test.true) c.loop-node.invariant.order in
    let within = here.ready.within in
    let size = alike_long g.P.Processor.code g.P.Life.phase g.P.Life.last_setup c.args.processors.now processors c.loop-node.invariant.played.alike in
    let long = c.requires.players.long in
    let there : node < length processors = omega (arith, within, size, long) in
    let is : before ≡ get_or processors node before = get_or_default processors node c.index-processors-node.result before there in
    let class = g.P.Processor.class_of (g.P.Processor.code before) in
    let state = g.P.Processor.state before in
    let quiet = silence session.channels in
    let frames = frames_in c.loop-node.room.frames.items in
    let main = main_mix session.channels session.wires quiet frames (AtNode node) in
    let aux = aux_mix session.channels session.wires quiet frames (AtNode node) in
    let turned : HasTurned g.P.Processor.class_of g.P.Processor.code g.P.Processor.state g.P.Life.phase g.P.Life.last_setup session c.args.plan.now.firsts.items c.args.processors.now (values_in c.args.room.now.values.items) quiet
    node before after frames (frames_in c.play_node.new.room.frames.items) =
    record {
      gave = c.play_node.ensures.frame ∙ ap (λ (v : Vec (Vec ℕ Global) Global). class.output session.channels state (values_in v.items node) main aux) c.loop-node.invariant.values;
      moved = c.play_node.ensures.state ∙ ap (λ (v : Vec (Vec ℕ Global) Global). class.next session.channels state (values_in v.items node) main aux) c.loop-node.invariant.values;
      stay = c.play_node.ensures.others;
      code_is = c.play_node.ensures.code;
      phase_is = c.play_node.ensures.phase;
      setup_is = c.play_node.ensures.setup;
    } in
    record {
      room = c.play_node.ensures.room;
      values = c.play_node.ensures.values ∙ c.loop-node.invariant.values;
      order = here.after;
      played = subst (λ (l : List ℕ). ArePlayed g.P.Processor.class_of g.P.Processor.code g.P.Processor.state g.P.Life.phase g.P.Life.last_setup session c.args.plan.now.firsts.items c.args.processors.now (values_in c.args.room.now.values.items) quiet
          l (set processors node after) (frames_in c.play_node.new.room.frames.items)) (sym here.more)
          (played_more g.P.Processor.class_of g.P.Processor.code g.P.Processor.state g.P.Life.phase g.P.Life.last_setup session c.args.plan.now.firsts.items c.args.processors.now (values_in c.args.room.now.values.items) quiet
          (take place order) processors frames (frames_in c.play_node.new.room.frames.items) node before after c.loop-node.invariant.played here.ready there is turned);
    }

pub returns-clause-consistent : goal.returns-clause-consistent
returns-clause-consistent g c =
    let session = content_of c.args.session.now in
    let order = c.deref-node-items.result.now in
    let place = c.loop-node.node-index in
    fit_together g.P.Processor.class_of g.P.Processor.code g.P.Processor.state g.P.Life.phase g.P.Life.last_setup session c.args.plan.now.firsts.items c.args.processors.now (values_in c.args.room.now.values.items) (silence session.channels)
    (take place order) c.loop-node.processors (frames_in c.loop-node.room.frames.items) c.loop-node.invariant.played
    (all_stand (length (nodes_of c.args.session.now.nodes)) (node_wires session.wires) order place c.loop-node-test.false c.loop-node.invariant.order) c.requires.players.long

pub returns-clause-states : goal.returns-clause-states
returns-clause-states g c =
    let session = content_of c.args.session.now in
    let order = c.deref-node-items.result.now in
    let place = c.loop-node.node-index in
    all_moved g.P.Processor.class_of g.P.Processor.code g.P.Processor.state g.P.Life.phase g.P.Life.last_setup session c.args.plan.now.firsts.items c.args.processors.now (values_in c.args.room.now.values.items) (silence session.channels)
    (take place order) c.loop-node.processors (frames_in c.loop-node.room.frames.items) c.loop-node.invariant.played
    (all_stand (length (nodes_of c.args.session.now.nodes)) (node_wires session.wires) order place c.loop-node-test.false c.loop-node.invariant.order) c.requires.players.long

pub returns-clause-alike : goal.returns-clause-alike
returns-clause-alike g c = c.loop-node.invariant.played.alike

pub returns-clause-room : goal.returns-clause-room
returns-clause-room g c = c.loop-node.invariant.room

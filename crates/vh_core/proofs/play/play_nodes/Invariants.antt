use Rattle.std.proofs.Common.{◌≡◌, length, take, drop}
use Rattle.vh_graph.specs.Order.{IsOrderAfter}
use Rattle.vh_params.specs.Nodes.{nodes_of}
use Rattle.vh_session.specs.Content.{node_wires}
use Rattle.vh_session.specs.Names.{content_of}
use Rattle.vh_meaning.specs.World.{silence}
use Rattle.vh_core.specs.Stage.{IsRoom, frames_in, values_in}
use Rattle.vh_core.proofs.Turns.{ArePlayed}
use Rattle.vh_core.proofs.play.play_nodes.Given as goal

-- the nodes before this place of the order played, and the others are as they were
abbrev pub invariant-loop-node : goal.invariant-loop-node
invariant-loop-node g l =
    let session = content_of l.session in
    record {
      room : IsRoom session l.room;
      values : l.room.values ≡ l.fn.room.values;
      order : IsOrderAfter (length (nodes_of l.session.nodes)) (node_wires session.wires) (take l.node-index l.node-items) (drop l.node-index l.node-items);
      played : ArePlayed g.P.Processor.class_of g.P.Processor.code g.P.Processor.state g.P.Life.phase g.P.Life.last_setup session l.plan.firsts.items l.fn.processors (values_in l.fn.room.values.items) (silence session.channels)
          (take l.node-index l.node-items) l.processors (frames_in l.room.frames.items);
    }

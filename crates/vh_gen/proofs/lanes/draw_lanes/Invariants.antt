use Rattle.std.proofs.Common.{◌≡◌, map, All}
use Rattle.vh_params.specs.Nodes.{nodes_of}
use Rattle.vh_session.specs.Parts.{laned, HasSteps}
use Rattle.vh_gen.specs.Lanes.{lanes_to, lane_state}
use Rattle.vh_gen.proofs.lanes.draw_lanes.Given as goal

abbrev pub invariant-loop-node : goal.invariant-loop-node
invariant-loop-node l = record {
  lanes : map laned l.lanes.items ≡ lanes_to (nodes_of l.nodes) l.initial.draws.state l.node;
  steps : All (HasSteps l.nodes) l.lanes.items;
  state : l.draws.state ≡ lane_state (nodes_of l.nodes) l.initial.draws.state l.node;
}

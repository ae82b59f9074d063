use Rattle.std.proofs.Common.{◌≡◌}
use Rattle.vh_params.specs.Nodes.{nodes_of}
use Rattle.vh_engine.specs.Plans.{begin_of}
use Rattle.vh_engine.proofs.Planned.{AreBoardsOf}
use Rattle.vh_engine.proofs.plan.boards_of.Given as goal

abbrev pub invariant-loop-node : goal.invariant-loop-node
invariant-loop-node l = record {
  at : l.at ≡ begin_of (nodes_of l.session.nodes) l.node;
  boards : AreBoardsOf l.session.lanes.items (nodes_of l.session.nodes) l.firsts l.boards.items l.node;
}

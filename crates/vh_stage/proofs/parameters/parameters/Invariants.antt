use Rattle.std.proofs.Common.{◌≡◌, ◌++◌, ◌<◌, ℕ, drop, slice_index_or}
use Rattle.vh_params.specs.Nodes.{Node, nodes_of}
use Rattle.vh_params.specs.Params.{AreRising}
use Rattle.vh_stage.specs.Parameters.{parameters_from, all_parameters}
use Rattle.vh_stage.proofs.parameters.parameters.Given as goal

abbrev pub invariant-loop-node : goal.invariant-loop-node
invariant-loop-node l = record {
  made : l.made.items ++ parameters_from l.node (drop l.node (nodes_of l.nodes)) ≡ all_parameters (nodes_of l.nodes);
  rising : (k : ℕ) (d : Node) → k < l.node → AreRising (slice_index_or (nodes_of l.nodes) k d).params;
}

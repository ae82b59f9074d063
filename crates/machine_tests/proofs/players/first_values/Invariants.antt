use Rattle.std.proofs.Common.{◌≡◌, ◌≤◌, ◌^◌, length, take}
use Rattle.std.specs.Prelude.{All}
use Rattle.vh_params.specs.Nodes.{nodes_of}
use Rattle.vh_legal.specs.Values.{param_count}
use Rattle.machine_tests.proofs.players.first_values.Given as goal

abbrev pub invariant-loop-node : goal.invariant-loop-node
invariant-loop-node l = record {
  each : length l.values.items ≡ param_count (take l.node (nodes_of l.session.nodes));
  within : All (λ value. value ≤ 2 ^ 24) l.values.items;
}

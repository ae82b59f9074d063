use Rattle.std.proofs.Common.{◌≡◌, ◌<◌, map, All}
use Rattle.std.specs.List.{range_with_len}
use Rattle.vh_gen.specs.Nodes.{kind_at, wire_in, node_state}
use Rattle.vh_gen.proofs.graph.draw_graph.Given as goal

abbrev pub invariant-loop-node : goal.invariant-loop-node
invariant-loop-node l = record {
  kinds : l.kinds.items ≡ map (kind_at l.initial.draws.state) (range_with_len 0 l.node);
  within : All (λ kind. kind < 8) l.kinds.items;
  wires : l.wires.items ≡ map (wire_in l.initial.draws.state) (range_with_len 0 l.node);
  state : l.draws.state ≡ node_state l.initial.draws.state l.node;
}

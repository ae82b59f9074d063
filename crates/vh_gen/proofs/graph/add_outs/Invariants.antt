use Rattle.std.proofs.Common.{◌≡◌, ◌++◌, map}
use Rattle.std.specs.List.{range_with_len}
use Rattle.vh_gen.specs.Nodes.{wire_out}
use Rattle.vh_gen.proofs.graph.add_outs.Given as goal

abbrev pub invariant-loop-node : goal.invariant-loop-node
invariant-loop-node l = l.wires.items ≡ l.initial.wires.items ++ map wire_out (range_with_len 0 l.node)

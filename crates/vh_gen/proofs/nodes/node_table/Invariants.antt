use Rattle.std.proofs.Common.{◌≡◌, map}
use Rattle.std.specs.List.{range_with_len}
use Rattle.vh_params.specs.ClassList.{classes_of}
use Rattle.vh_params.specs.Nodes.{nodes_of as nodes_in}
use Rattle.vh_gen.specs.Nodes.{node_of}
use Rattle.vh_gen.proofs.nodes.node_table.Given as goal

abbrev pub invariant-loop-node : goal.invariant-loop-node
invariant-loop-node l = nodes_in l.table ≡ map (node_of (classes_of l.classes) l.kinds) (range_with_len 0 l.node)

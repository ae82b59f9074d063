use Rattle.std.proofs.Common.{◌≡◌, take}
use Rattle.vh_params.specs.Nodes.{nodes_of}
use Rattle.vh_params.proofs.node.NodeTable.copy.Given as goal

abbrev pub invariant-loop-i : goal.invariant-loop-i
invariant-loop-i l = nodes_of l.copy ≡ take l.i (nodes_of l.self)

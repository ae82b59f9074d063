use Rattle.std.proofs.Common.{◌≡◌, take}
use Rattle.vh_params.specs.Nodes.{nodes_of}
use Rattle.vh_gesture.specs.Tables.{gates_from}
use Rattle.vh_gesture.proofs.gestures.Gestures.new.Given as goal

abbrev pub invariant-loop-node : goal.invariant-loop-node
invariant-loop-node l = l.gates.items ≡ gates_from 0 (take l.node (nodes_of l.nodes))

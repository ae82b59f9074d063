use Rattle.std.proofs.Common.{◌≡◌, ◌++◌, take}
use Rattle.vh_gesture.specs.Tables.{gates_of}
use Rattle.vh_gesture.proofs.gestures.push_gates.Given as goal

abbrev pub invariant-loop-param : goal.invariant-loop-param
invariant-loop-param l = l.gates.items ≡ l.initial.gates.items ++ gates_of l.node (take l.param-index l.params)

use Rattle.vh_params.specs.Nodes.{nodes_of}
use Rattle.vh_gesture.specs.Tables.{IsOf}
use Rattle.journal_tests.proofs.gesture.faults_in_their_order.Given as goal

abbrev pub invariant-loop-word : goal.invariant-loop-word
invariant-loop-word g l = IsOf (nodes_of l.nodes) l.gestures

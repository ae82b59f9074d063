use Rattle.vh_params.specs.Nodes.{nodes_of}
use Rattle.vh_gesture.specs.Tables.{IsOf}
use Rattle.journal_tests.proofs.gesture.holds_and_references_are_counted.Given as goal

abbrev pub invariant-loop : goal.invariant-loop
invariant-loop g l = IsOf (nodes_of l.nodes) l.gestures

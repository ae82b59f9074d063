use Rattle.vh_params.specs.Nodes.{nodes_of}
use Rattle.engine_part.proofs.Carrying.{AreFirst}
use Rattle.engine_part.proofs.carried.are_carried.Given as goal

abbrev pub invariant-loop-entry : goal.invariant-loop-entry
invariant-loop-entry l = AreFirst (nodes_of l.nodes) l.at l.past l.least l.entries l.entry-index

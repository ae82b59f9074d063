use Rattle.std.proofs.Common.{take}
use Rattle.vh_graph.specs.Steps.{IsClosed}
use Rattle.vh_graph.proofs.search.close.Given as goal

abbrev pub invariant-loop-node : goal.invariant-loop-node
invariant-loop-node l = IsClosed l.on_cycle (take l.node-index l.nodes) l.fn.places l.places

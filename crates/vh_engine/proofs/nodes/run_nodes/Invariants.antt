use Rattle.vh_engine.proofs.Turns.{AreInTurn}
use Rattle.vh_engine.proofs.nodes.run_nodes.Given as goal

-- the nodes before this one of the order ran, and the others are as they were
abbrev pub invariant-loop-node : goal.invariant-loop-node
invariant-loop-node g l =
    AreInTurn g.P.Processor.class_of g.P.Processor.code g.P.Processor.state g.P.Processor.values g.P.Processor.calls g.P.Life.phase g.P.Life.last_setup l.order l.seats l.span l.ins l.node-index l.fn.processors l.processors
    l.fn.boards l.boards l.fn.rows l.rows l.fn.space l.space

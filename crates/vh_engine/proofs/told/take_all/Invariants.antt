use Rattle.vh_engine.proofs.Takes.{AreTaking}
use Rattle.vh_engine.proofs.told.take_all.Given as goal

abbrev pub invariant-loop-control : goal.invariant-loop-control
invariant-loop-control l = AreTaking l.lanes l.node l.entry l.fn.controls l.control-items l.control-index

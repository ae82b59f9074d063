use Rattle.std.proofs.Common.{◌-◌, length}
use Rattle.vh_engine.proofs.Taken.{IsTaking}
use Rattle.vh_engine.proofs.control.Control.take_up_to.Given as goal

abbrev pub invariant-loop-place : goal.invariant-loop-place
invariant-loop-place l = IsTaking l.span l.node l.fn.place l.sample l.fn.self l.place l.self

abbrev pub decreases-loop-place : goal.decreases-loop-place
decreases-loop-place l = length l.span.entries.now - l.place

use Rattle.vh_session.specs.Names.{content_of}
use Rattle.vh_engine.proofs.Planned.{AreSeatsOf}
use Rattle.vh_engine.proofs.plan.seats_of.Given as goal

abbrev pub invariant-loop-node : goal.invariant-loop-node
invariant-loop-node l = AreSeatsOf (content_of l.session).wires l.seats.items l.node

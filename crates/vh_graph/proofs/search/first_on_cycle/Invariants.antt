use Rattle.std.proofs.Common.{◌<◌, ◌≢◌, ℕ, get_or, true}
use Rattle.vh_graph.specs.declared.search.Place.{Place}
use Rattle.vh_graph.specs.declared.search.Place.TheVariants.{Closed}
use Rattle.vh_graph.proofs.search.first_on_cycle.Given as goal

abbrev pub invariant-loop-node : goal.invariant-loop-node
invariant-loop-node l = (node : ℕ) (d : Place) → node < l.node → get_or l.places node d ≢ Closed true

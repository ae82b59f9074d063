use Rattle.std.proofs.Common.{◌≡◌, drop}
use Rattle.vh_cut.specs.Cut.{later_stops}
use Rattle.vh_cut.proofs.piece.later.Given as goal

abbrev pub invariant-loop-i : goal.invariant-loop-i
invariant-loop-i l = later_stops l.at (drop l.i l.stops) ≡ later_stops l.at l.stops

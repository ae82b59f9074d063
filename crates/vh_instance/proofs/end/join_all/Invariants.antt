use Rattle.std.proofs.Common.{◌≡◌, ◌∷◌, drop, map}
use Rattle.vh_counted.specs.Held.{object_of, value_of_opened}
use Rattle.vh_instance.specs.Seats.{opener_seat, row_seats, last_holders, AreTogether}
use Rattle.vh_instance.proofs.Ends.{AreTaken}
use Rattle.vh_instance.proofs.end.join_all.Given as goal

abbrev pub invariant-loop-row : goal.invariant-loop-row
invariant-loop-row g l = record {
  taken : AreTaken l.initial.row-items l.row-items l.row-index;
  held : AreTogether (object_of l.controller) (opener_seat l.opener ∷ last_holders (map row_seats (drop l.row-index l.initial.row-items)));
  value : value_of_opened l.opener ≡ value_of_opened l.initial.opener;
}

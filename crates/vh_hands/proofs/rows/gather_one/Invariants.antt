use Rattle.std.proofs.Common.{◌≡◌, ◌*◌, ◌∷◌, drop, map, vec_capacity}
use Rattle.std.specs.Prelude.{All}
use Rattle.vh_counted.specs.Held.{object_of, value_of_opened}
use Rattle.vh_instance.specs.Band.{controller_table, kept_beside, kept_by_editor}
use Rattle.vh_instance.specs.Seats.{opener_seat, row_seats, last_holders, AreTogether, Has}
use Rattle.vh_instance.proofs.Ends.{AreTaken}
use Rattle.vh_hands.proofs.rows.gather_one.Given as goal

abbrev pub invariant-loop-row : goal.invariant-loop-row
invariant-loop-row g l = record {
  taken : AreTaken l.initial.row-items l.row-items l.row-index;
  capacities : map vec_capacity l.row-items ≡ map vec_capacity l.initial.row-items;
  held : AreTogether (object_of l.object) (opener_seat l.opener ∷ last_holders (map row_seats (drop l.row-index l.initial.row-items)));
  left : All (Has controller_table kept_by_editor 64) (last_holders (map row_seats (drop l.row-index l.initial.row-items)));
  references : Has controller_table (kept_beside (2 * l.row-index)) (64 * l.row-index) (opener_seat l.opener);
  value : value_of_opened l.opener ≡ value_of_opened l.initial.opener;
}

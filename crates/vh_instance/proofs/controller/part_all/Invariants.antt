use Rattle.std.proofs.Common.{◌≡◌, ◌*◌, ◌-◌, length}
use Rattle.vh_counted.specs.Held.{object_of, value_of_opened}
use Rattle.vh_instance.specs.Seats.{opener_seat, Has}
use Rattle.vh_instance.specs.Band.{controller_table, kept_beside}
use Rattle.vh_instance.proofs.Parted.{ArePut}
use Rattle.vh_instance.proofs.controller.part_all.Given as goal

abbrev pub invariant-loop-row : goal.invariant-loop-row
invariant-loop-row g l = record {
  put : ArePut (object_of l.object) (opener_seat l.opener) l.initial.row-items l.row-items l.row-index;
  references : Has controller_table (kept_beside (2 * (length l.initial.row-items - l.row-index))) (64 * (length l.initial.row-items - l.row-index)) (opener_seat l.opener);
  value : value_of_opened l.opener ≡ value_of_opened l.initial.opener;
}

use Rattle.std.proofs.Common.{◌≡◌, ◌+◌, length}
use Rattle.vh_instance.specs.Seats.{AreEmpty}
use Rattle.vh_instance.proofs.controller.destroy_rows.Given as goal

abbrev pub invariant-loop : goal.invariant-loop
invariant-loop g l = record {
  left : length l.rows.items + l.counter ≡ length l.initial.rows.items;
  empty : AreEmpty l.rows.items;
}

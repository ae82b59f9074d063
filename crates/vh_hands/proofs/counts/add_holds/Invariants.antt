use Rattle.std.proofs.Common.{◌≡◌, ◌+◌, ◌-◌, ℕ}
use Rattle.vh_counted.specs.Held.{object_of, object_of_opened, numbers_of_opened, value_of_opened}
use Rattle.vh_counted.specs.Objects.{IsWhole}
use Rattle.vh_instance.specs.Band.{controller_table, kept_beside}
use Rattle.vh_instance.specs.Seats.{opener_seat, Has}
use Rattle.vh_hands.proofs.counts.add_holds.Given as goal

abbrev pub invariant-loop : goal.invariant-loop
invariant-loop g l = record {
  references : (given room : ℕ) → Has controller_table (kept_beside given) (room + l.holds) (opener_seat l.initial.opener) → Has controller_table (kept_beside (given + l.counter)) (room + (l.holds - l.counter)) (opener_seat l.opener);
  whole : IsWhole (object_of l.object).cap (numbers_of_opened l.opener);
  object : object_of_opened l.opener ≡ object_of_opened l.initial.opener;
  value : value_of_opened l.opener ≡ value_of_opened l.initial.opener;
}

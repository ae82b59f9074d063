use Rattle.std.proofs.Common.{◌≡◌, ◌+◌, ◌*◌, ◌-◌}
use Rattle.vh_counted.specs.Held.{object_of_opened, numbers_of_opened, value_of_opened}
use Rattle.vh_counted.specs.Objects.{IsWhole}
use Rattle.vh_instance.specs.Seats.{opener_seat, Has}
use Rattle.vh_instance.specs.Band.{controller_table, kept_beside}
use Rattle.vh_instance.proofs.controller.find_interfaces.Given as goal

abbrev pub invariant-loop : goal.invariant-loop
invariant-loop g l = record {
  references : Has controller_table (kept_beside l.counter) (66 * l.editors - l.counter) (opener_seat l.opener);
  whole : IsWhole (2 + 66 * l.editors) (numbers_of_opened l.opener);
  object : object_of_opened l.opener ≡ object_of_opened l.initial.opener;
  value : value_of_opened l.opener ≡ value_of_opened l.initial.opener;
}

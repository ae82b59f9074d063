use Rattle.std.proofs.Common.{◌≡◌, ◌+◌}
use Rattle.vh_counted.specs.Steps.{total}
use Rattle.vh_counted.specs.Objects.{IsWhole}
use Rattle.vh_counted.proofs.object.Counted.end_whole.Given as goal

abbrev pub invariant-loop : goal.invariant-loop
invariant-loop g l = record {
  object : l.o.object ≡ l.initial.o.object;
  value : l.o.value ≡ l.initial.o.value;
  whole : IsWhole l.self.object.cap l.o.numbers;
  left : total l.o.numbers + l.counter ≡ total l.initial.o.numbers + 1;
}

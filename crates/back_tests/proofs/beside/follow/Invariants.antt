use Rattle.std.proofs.Common.{◌≡◌}
use Rattle.vh_counted.specs.Held.{object_of_opened, numbers_of_opened}
use Rattle.back_tests.proofs.beside.follow.Given as goal

abbrev pub invariant-loop : goal.invariant-loop
invariant-loop l = record {
  object : object_of_opened l.opener ≡ object_of_opened l.initial.opener;
  numbers : numbers_of_opened l.opener ≡ numbers_of_opened l.initial.opener;
  ring : l.follower.ring ≡ l.initial.follower.ring;
}

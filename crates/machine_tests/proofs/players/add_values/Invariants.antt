use Rattle.std.proofs.Common.{◌≡◌, ◌≤◌, ◌+◌, ◌^◌, length}
use Rattle.std.specs.Prelude.{All}
use Rattle.machine_tests.proofs.players.add_values.Given as goal

abbrev pub invariant-loop-param : goal.invariant-loop-param
invariant-loop-param l = record {
  each : length l.values.items ≡ length l.initial.values.items + l.param-index;
  within : All (λ value. value ≤ 2 ^ 24) l.values.items;
}

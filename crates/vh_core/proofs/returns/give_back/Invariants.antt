use Rattle.std.proofs.Common.{◌≡◌, ◌-◌, map, take, drop}
use Rattle.vh_core.specs.Steps.{given}
use Rattle.vh_core.specs.Kept.{return_of}
use Rattle.vh_core.proofs.returns.give_back.Given as goal

abbrev pub invariant-loop : goal.invariant-loop
invariant-loop l = record {
  returns : drop (l.count - l.counter) (map return_of l.returns.items) ≡ drop l.count (map return_of l.fn.returns.items);
  controllers : given (take (l.count - l.counter) (map return_of l.returns.items)) l.controllers ≡ given (take l.count (map return_of l.fn.returns.items)) l.fn.controllers;
}

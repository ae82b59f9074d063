use Rattle.std.proofs.Common.{◌≡◌, ◌≤◌, ◌+◌, ◌-◌, ◌++◌, map, take, drop}
use Rattle.std.specs.Prelude.{vec_len, vec_capacity}
use Rattle.vh_core.specs.Steps.{entry_at}
use Rattle.vh_core.proofs.kept.take_in.Given as goal

abbrev pub invariant-loop : goal.invariant-loop
invariant-loop l = record {
  room : vec_len l.journal + (l.count - l.counter) ≤ vec_capacity l.journal;
  inbox : drop (l.count - l.counter) l.inbox.items ≡ drop l.count l.fn.inbox.items;
  journal : l.journal.items ++ map (entry_at l.sample) (take (l.count - l.counter) l.inbox.items) ≡ l.fn.journal.items ++ map (entry_at l.sample) (take l.count l.fn.inbox.items);
}

use Rattle.std.proofs.Common.{◌≡◌, All, length}
use Rattle.vh_engine.proofs.work.silent_rows.Given as goal

abbrev pub invariant-loop : goal.invariant-loop
invariant-loop l = (length l.rows.items ≡ l.counter) × All (λ row. length row.items ≡ l.size) l.rows.items

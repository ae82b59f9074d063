use Rattle.std.proofs.Common.{ℕ, ◌<◌, get_or}
use Rattle.vh_journal.specs.declared.entry.Entry.{Entry}
use Rattle.vh_legal.specs.Values.{IsWithinOne}
use Rattle.journal_tests.proofs.legal.are_within.Given as goal

abbrev pub invariant-loop-entry : goal.invariant-loop-entry
invariant-loop-entry l = (k : ℕ) (d : Entry) → k < l.entry-index → IsWithinOne (get_or l.entries k d).command

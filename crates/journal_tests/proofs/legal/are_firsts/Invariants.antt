use Rattle.std.proofs.Common.{ℕ, ◌<◌, ◌≤◌, ◌^◌, get_or}
use Rattle.journal_tests.proofs.legal.are_firsts.Given as goal

abbrev pub invariant-loop-first : goal.invariant-loop-first
invariant-loop-first l = (k d : ℕ) → k < l.first-index → get_or l.firsts k d ≤ 2 ^ 24

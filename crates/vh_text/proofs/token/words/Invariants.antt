use Rattle.std.proofs.Common.{◌≡◌, ◌++◌, ◌≤◌, ◌-◌, drop, length}
use Rattle.vh_text.specs.Tokens.{tokens_from}
use Rattle.vh_text.proofs.token.words.Given as goal

abbrev pub invariant-loop-at : goal.invariant-loop-at
invariant-loop-at l = (l.tokens.items ++ tokens_from l.at (drop l.at l.line) ≡ tokens_from 0 l.line) × (l.at ≤ length l.line)

abbrev pub decreases-loop-at : goal.decreases-loop-at
decreases-loop-at l = length l.line - l.at

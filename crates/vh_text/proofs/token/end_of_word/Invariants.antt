use Rattle.std.proofs.Common.{◌≡◌, ◌+◌, ◌≤◌, ◌-◌, drop, length}
use Rattle.vh_text.specs.Tokens.{word_length}
use Rattle.vh_text.proofs.token.end_of_word.Given as goal

abbrev pub invariant-loop-end : goal.invariant-loop-end
invariant-loop-end l = (l.end + word_length (drop l.end l.line) ≡ l.at + word_length (drop l.at l.line)) × (l.end ≤ length l.line)

abbrev pub decreases-loop-end : goal.decreases-loop-end
decreases-loop-end l = length l.line - l.end

use Rattle.std.proofs.Common.{◌≡◌, drop}
use Rattle.vh_text.specs.Tokens.{tokens_from, tokens_of}
use Rattle.vh_text.proofs.token.first_word.Given as goal

abbrev pub invariant-loop-from : goal.invariant-loop-from
invariant-loop-from l = tokens_from l.from (drop l.from l.line) ≡ tokens_of l.line

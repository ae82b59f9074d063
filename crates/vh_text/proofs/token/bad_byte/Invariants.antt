use Rattle.std.proofs.Common.{◌≡◌, drop}
use Rattle.vh_text.specs.Tokens.{bad_from}
use Rattle.vh_text.proofs.token.bad_byte.Given as goal

abbrev pub invariant-loop-i : goal.invariant-loop-i
invariant-loop-i l = bad_from l.i (drop l.i l.line) ≡ bad_from 0 l.line

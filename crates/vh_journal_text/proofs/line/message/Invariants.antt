use Rattle.std.proofs.Common.{◌≡◌, take, length, Ok}
use Rattle.vh_text.specs.Tokens.{texts}
use Rattle.vh_journal_text.specs.Lines.{any_numbers}
use Rattle.vh_journal_text.proofs.line.message.Given as goal

abbrev pub invariant-loop-i : goal.invariant-loop-i
invariant-loop-i l = (length l.numbers ≡ 4) × (any_numbers (take l.i (texts l.words)) ≡ Ok (take l.i l.numbers))

use Rattle.std.proofs.Common.{◌≡◌, take, length, Ok}
use Rattle.vh_session.specs.Rules.{numbers_that}
use Rattle.vh_text.specs.Numbers.{is_within}
use Rattle.vh_text.specs.Tokens.{texts}
use Rattle.vh_session.proofs.numbers.numbers_within.Given as goal

abbrev pub invariant-loop-i : goal.invariant-loop-i
invariant-loop-i l = (length l.numbers ≡ length l.fn.numbers) × (numbers_that (is_within l.least l.most) (take l.i (texts l.words)) ≡ Ok (take l.i l.numbers))

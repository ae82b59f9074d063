use Rattle.vh_text.proofs.Places.{IsRead}
use Rattle.vh_text.proofs.decimal.number.Given as goal

abbrev pub invariant-loop-b : goal.invariant-loop-b
invariant-loop-b l = IsRead l.text l.b-index l.number

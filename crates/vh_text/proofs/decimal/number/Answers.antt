use Rattle.std.proofs.Common.{sym, ◌∙◌}
use Rattle.vh_text.proofs.Places.{read_more}
use Rattle.vh_text.proofs.decimal.number.Goals as goal

pub loop-b-preserved : goal.loop-b-preserved
loop-b-preserved c = read_more c.args.text.now c.loop-b.b-index c.loop-b.number c.from.result c.loop-b-test.true (sym c.is_ascii_digit.ensures.value ∙ c.if-not-is_ascii_digit.false) c.from.ensures c.loop-b.invariant

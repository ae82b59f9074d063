use Rattle.vh_journal_text.proofs.Faulty.{law_kinds_in_order}
use Rattle.vh_journal_text.proofs.laws.kinds_in_order.Goals as goal

pub returns : goal.returns
returns c = law_kinds_in_order

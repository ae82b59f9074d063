use Rattle.vh_legal.proofs.Keeping.{law_legal_is_journal}
use Rattle.vh_legal.proofs.laws.legal_is_journal.Goals as goal

pub returns : goal.returns
returns c = law_legal_is_journal

use Rattle.vh_legal_text.proofs.Ruled.{law_legal_reads_back}
use Rattle.vh_legal_text.proofs.laws.legal_reads_back.Goals as goal

pub returns : goal.returns
returns c = law_legal_reads_back c.legal_is_journal.ensures c.printed_is_read.ensures

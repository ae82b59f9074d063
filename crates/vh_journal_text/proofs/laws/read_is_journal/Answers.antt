use Rattle.vh_journal_text.proofs.Accepted.{law_read_is_journal}
use Rattle.vh_journal_text.proofs.laws.read_is_journal.Goals as goal

pub returns : goal.returns
returns c = law_read_is_journal

use Rattle.vh_journal_text.proofs.ReadsBack.{law_printed_is_read}
use Rattle.vh_journal_text.proofs.laws.printed_is_read.Goals as goal

pub returns : goal.returns
returns c = law_printed_is_read

use Rattle.vh_session.proofs.Once.{law_printed_is_read}
use Rattle.vh_session.proofs.laws.printed_is_read.Goals as goal

pub returns : goal.returns
returns c = law_printed_is_read

use Rattle.vh_link.proofs.Links.{law_written_is_read}
use Rattle.vh_link.proofs.laws.written_is_read.Goals as goal

pub returns : goal.returns
returns c = law_written_is_read

use Rattle.vh_text.proofs.ReadBack.{law_read_back}
use Rattle.vh_text.proofs.laws.written_is_read.Goals as goal

pub returns : goal.returns
returns c = law_read_back

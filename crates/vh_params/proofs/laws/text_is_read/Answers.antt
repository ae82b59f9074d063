use Rattle.vh_params.proofs.Texts.{law_text_is_read}
use Rattle.vh_params.proofs.laws.text_is_read.Goals as goal

pub returns : goal.returns
returns c = law_text_is_read

use Rattle.vh_params.proofs.Texts.{law_text_stands_for_one}
use Rattle.vh_params.proofs.laws.text_stands_for_one.Goals as goal

pub returns : goal.returns
returns c = law_text_stands_for_one

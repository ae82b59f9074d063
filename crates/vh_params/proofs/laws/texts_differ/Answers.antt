use Rattle.vh_params.proofs.Texts.{law_texts_differ}
use Rattle.vh_params.proofs.laws.texts_differ.Goals as goal

pub returns : goal.returns
returns c = law_texts_differ

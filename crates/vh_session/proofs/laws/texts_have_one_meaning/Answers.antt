use Rattle.vh_session.proofs.Meaning.{law_meaning}
use Rattle.vh_session.proofs.laws.texts_have_one_meaning.Goals as goal

pub returns : goal.returns
returns c = law_meaning

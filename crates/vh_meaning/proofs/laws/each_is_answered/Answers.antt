use Rattle.vh_meaning.proofs.Answering.{law_each_is_answered}
use Rattle.vh_meaning.proofs.laws.each_is_answered.Goals as goal

pub returns : goal.returns
returns c = law_each_is_answered

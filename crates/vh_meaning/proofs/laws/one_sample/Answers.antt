use Rattle.vh_meaning.proofs.Applying.{law_one_sample}
use Rattle.vh_meaning.proofs.laws.one_sample.Goals as goal

pub returns : goal.returns
returns c = law_one_sample

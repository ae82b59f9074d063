use Rattle.vh_meaning.proofs.Applying.{law_applied}
use Rattle.vh_meaning.proofs.laws.applied.Goals as goal

pub returns : goal.returns
returns c = law_applied

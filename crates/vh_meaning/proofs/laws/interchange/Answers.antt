use Rattle.vh_meaning.proofs.Traces.{law_interchange}
use Rattle.vh_meaning.proofs.laws.interchange.Goals as goal

pub returns : goal.returns
returns c = law_interchange

use Rattle.vh_meaning.proofs.Examples.{law_worked}
use Rattle.vh_meaning.proofs.laws.worked.Goals as goal

pub returns : goal.returns
returns c = law_worked

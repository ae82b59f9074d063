use Rattle.vh_meaning.proofs.Blocks.{law_at_first}
use Rattle.vh_meaning.proofs.laws.stands_at_first.Goals as goal

pub returns : goal.returns
returns c = law_at_first

use Rattle.vh_query.proofs.Positions.{law_each_is_found}
use Rattle.vh_query.proofs.laws.each_is_found.Goals as goal

pub returns : goal.returns
returns c = law_each_is_found

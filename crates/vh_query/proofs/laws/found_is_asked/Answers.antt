use Rattle.vh_query.proofs.Positions.{law_found_is_asked}
use Rattle.vh_query.proofs.laws.found_is_asked.Goals as goal

pub returns : goal.returns
returns c = law_found_is_asked

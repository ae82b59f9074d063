use Rattle.vh_core.proofs.Sound.{law_equal_where_settled}
use Rattle.vh_core.proofs.laws.equal_where_settled.Goals as goal

pub returns : goal.returns
returns c = law_equal_where_settled

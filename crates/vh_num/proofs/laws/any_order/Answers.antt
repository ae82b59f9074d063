use Rattle.vh_num.proofs.Lawful.{law_any_order}
use Rattle.vh_num.proofs.laws.any_order.Goals as goal

pub returns : goal.returns
returns c = law_any_order

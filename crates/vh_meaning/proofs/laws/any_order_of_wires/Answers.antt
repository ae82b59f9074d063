use Rattle.vh_meaning.proofs.Wires.{law_any_order}
use Rattle.vh_meaning.proofs.laws.any_order_of_wires.Goals as goal

pub returns : goal.returns
returns c = law_any_order

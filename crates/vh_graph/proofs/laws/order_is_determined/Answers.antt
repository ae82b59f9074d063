use Rattle.vh_graph.proofs.Orders.{law_determined}
use Rattle.vh_graph.proofs.laws.order_is_determined.Goals as goal

pub returns : goal.returns
returns c = law_determined

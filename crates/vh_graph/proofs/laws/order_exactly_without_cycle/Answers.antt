use Rattle.vh_graph.proofs.Ready.{law_order}
use Rattle.vh_graph.proofs.laws.order_exactly_without_cycle.Goals as goal

pub returns : goal.returns
returns c = law_order

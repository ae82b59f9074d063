use Rattle.vh_graph.proofs.Lower.{law_lower}
use Rattle.vh_graph.proofs.laws.sources_are_lower.Goals as goal

pub returns : goal.returns
returns c = law_lower

use Rattle.vh_graph.proofs.After.{law_after_sources}
use Rattle.vh_graph.proofs.laws.each_after_its_sources.Goals as goal

pub returns : goal.returns
returns c = law_after_sources

use Rattle.vh_counted.proofs.Sums.{law_join_keeps}
use Rattle.vh_counted.proofs.laws.join_keeps.Goals as goal

pub returns : goal.returns
returns c = law_join_keeps

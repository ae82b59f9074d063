use Rattle.vh_counted.proofs.Sums.{law_split_keeps}
use Rattle.vh_counted.proofs.laws.split_keeps.Goals as goal

pub returns : goal.returns
returns c = law_split_keeps

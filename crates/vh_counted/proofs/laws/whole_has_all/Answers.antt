use Rattle.vh_counted.proofs.Sums.{law_whole_has_all}
use Rattle.vh_counted.proofs.laws.whole_has_all.Goals as goal

pub returns : goal.returns
returns c = law_whole_has_all

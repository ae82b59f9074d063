use Rattle.vh_counted.proofs.Sums.{law_add_counts}
use Rattle.vh_counted.proofs.laws.add_counts.Goals as goal

pub returns : goal.returns
returns c = law_add_counts

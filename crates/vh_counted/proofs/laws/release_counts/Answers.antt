use Rattle.vh_counted.proofs.Sums.{law_release_counts}
use Rattle.vh_counted.proofs.laws.release_counts.Goals as goal

pub returns : goal.returns
returns c = law_release_counts

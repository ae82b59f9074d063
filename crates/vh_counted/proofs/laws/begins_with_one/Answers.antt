use Rattle.vh_counted.proofs.Sums.{law_begins_with_one}
use Rattle.vh_counted.proofs.laws.begins_with_one.Goals as goal

pub returns : goal.returns
returns c = law_begins_with_one

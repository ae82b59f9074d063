use Rattle.vh_counted.proofs.Sums.{law_any_holder_first}
use Rattle.vh_counted.proofs.laws.any_holder_first.Goals as goal

pub returns : goal.returns
returns c = law_any_holder_first

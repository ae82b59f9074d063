use Rattle.vh_instance.proofs.Counting.{law_raised_by_sum}
use Rattle.vh_instance.proofs.laws.raised_by_sum.Goals as goal

pub returns : goal.returns
returns c = law_raised_by_sum

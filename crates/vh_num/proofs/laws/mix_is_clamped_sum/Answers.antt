use Rattle.vh_num.proofs.Lawful.{law_mix_is_clamped_sum}
use Rattle.vh_num.proofs.laws.mix_is_clamped_sum.Goals as goal

pub returns : goal.returns
returns c = law_mix_is_clamped_sum

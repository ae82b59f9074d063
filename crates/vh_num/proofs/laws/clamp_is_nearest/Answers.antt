use Rattle.vh_num.proofs.Lawful.{law_clamp_is_nearest}
use Rattle.vh_num.proofs.laws.clamp_is_nearest.Goals as goal

pub returns : goal.returns
returns c = law_clamp_is_nearest

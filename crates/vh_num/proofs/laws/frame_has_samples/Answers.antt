use Rattle.vh_num.proofs.InPlace.{law_frame_has_samples}
use Rattle.vh_num.proofs.laws.frame_has_samples.Goals as goal

pub returns : goal.returns
returns c = law_frame_has_samples

use Rattle.vh_meaning.proofs.Fitting.{law_frames_fit}
use Rattle.vh_meaning.proofs.laws.frames_fit.Goals as goal

pub returns : goal.returns
returns c = law_frames_fit

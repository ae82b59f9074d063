use Rattle.vh_meaning.proofs.Fitting.{law_frames_that_fit}
use Rattle.vh_meaning.proofs.laws.frames_that_fit.Goals as goal

pub returns : goal.returns
returns c = law_frames_that_fit

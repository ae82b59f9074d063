use Rattle.vh_wav.proofs.Held.{law_holds_its_frames}
use Rattle.vh_wav.proofs.laws.holds_its_frames.Goals as goal

pub returns : goal.returns
returns c = law_holds_its_frames

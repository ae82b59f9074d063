use Rattle.vh_num.proofs.InPlace.{law_frames_are_in_place}
use Rattle.vh_num.proofs.laws.frames_are_in_place.Goals as goal

pub returns : goal.returns
returns c = law_frames_are_in_place

use Rattle.vh_meaning.proofs.Blocks.{law_out_from_frames}
use Rattle.vh_meaning.proofs.laws.out_from_frames.Goals as goal

pub returns : goal.returns
returns c = law_out_from_frames

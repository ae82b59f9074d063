use Rattle.vh_meaning.proofs.Wires.{law_silence}
use Rattle.vh_meaning.proofs.laws.silence_without_out.Goals as goal

pub returns : goal.returns
returns c = law_silence

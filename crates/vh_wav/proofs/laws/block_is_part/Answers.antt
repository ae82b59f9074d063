use Rattle.vh_wav.proofs.Held.{law_block_is_part}
use Rattle.vh_wav.proofs.laws.block_is_part.Goals as goal

pub returns : goal.returns
returns c = law_block_is_part

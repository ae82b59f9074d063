use Rattle.vh_meaning.proofs.Blocks.{law_one_block}
use Rattle.vh_meaning.proofs.laws.one_block.Goals as goal

pub returns : goal.returns
returns c = law_one_block

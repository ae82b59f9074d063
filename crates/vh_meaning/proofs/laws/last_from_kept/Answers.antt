use Rattle.vh_meaning.proofs.Blocks.{law_last_from_kept}
use Rattle.vh_meaning.proofs.laws.last_from_kept.Goals as goal

pub returns : goal.returns
returns c = law_last_from_kept

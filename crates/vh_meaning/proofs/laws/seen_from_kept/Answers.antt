use Rattle.vh_meaning.proofs.Blocks.{law_seen_from_kept}
use Rattle.vh_meaning.proofs.laws.seen_from_kept.Goals as goal

pub returns : goal.returns
returns c = law_seen_from_kept

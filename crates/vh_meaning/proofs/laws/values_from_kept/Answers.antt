use Rattle.vh_meaning.proofs.Touches.{law_values_from_kept}
use Rattle.vh_meaning.proofs.laws.values_from_kept.Goals as goal

pub returns : goal.returns
returns c = law_values_from_kept

use Rattle.vh_editors.proofs.Fronts.{law_front_is_begun}
use Rattle.vh_editors.proofs.laws.front_is_begun.Goals as goal

pub returns : goal.returns
returns c = law_front_is_begun

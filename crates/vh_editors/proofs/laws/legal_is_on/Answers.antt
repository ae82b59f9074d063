use Rattle.vh_editors.proofs.On.{law_legal_is_on}
use Rattle.vh_editors.proofs.laws.legal_is_on.Goals as goal

pub returns : goal.returns
returns c = law_legal_is_on

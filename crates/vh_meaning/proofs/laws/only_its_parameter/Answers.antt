use Rattle.vh_meaning.proofs.Lanes.{law_only_its_parameter}
use Rattle.vh_meaning.proofs.laws.only_its_parameter.Goals as goal

pub returns : goal.returns
returns c = law_only_its_parameter

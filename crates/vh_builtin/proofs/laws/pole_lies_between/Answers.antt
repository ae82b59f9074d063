use Rattle.vh_builtin.proofs.Sounding.{law_pole}
use Rattle.vh_builtin.proofs.laws.pole_lies_between.Goals as goal

pub returns : goal.returns
returns c = law_pole

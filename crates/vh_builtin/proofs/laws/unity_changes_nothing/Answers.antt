use Rattle.vh_builtin.proofs.Sounding.{law_unity}
use Rattle.vh_builtin.proofs.laws.unity_changes_nothing.Goals as goal

pub returns : goal.returns
returns c channels state values main aux = law_unity values main

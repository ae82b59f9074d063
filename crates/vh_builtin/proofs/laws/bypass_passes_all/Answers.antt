use Rattle.vh_builtin.specs.Frames.{value, step}
use Rattle.vh_builtin.specs.Gate.{key_of}
use Rattle.vh_builtin.proofs.Sounding.{law_bypass}
use Rattle.vh_builtin.proofs.laws.bypass_passes_all.Goals as goal

pub returns : goal.returns
returns c channels state values main aux is = law_bypass (value values 0) (step values 2 1) state (key_of main aux) main is

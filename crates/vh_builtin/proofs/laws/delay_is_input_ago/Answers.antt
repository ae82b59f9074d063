use Rattle.vh_builtin.proofs.Sounding.{law_delay}
use Rattle.vh_builtin.proofs.laws.delay_is_input_ago.Goals as goal

pub returns : goal.returns
returns c = law_delay

use Rattle.vh_num.proofs.Lawful.{law_quant_twice}
use Rattle.vh_num.proofs.laws.quant_twice.Goals as goal

pub returns : goal.returns
returns c = law_quant_twice

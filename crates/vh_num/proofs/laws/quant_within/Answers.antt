use Rattle.vh_num.proofs.Lawful.{law_quant_within}
use Rattle.vh_num.proofs.laws.quant_within.Goals as goal

pub returns : goal.returns
returns c = law_quant_within

use Rattle.vh_num.proofs.Lawful.{law_index_of_norm}
use Rattle.vh_num.proofs.laws.index_of_norm.Goals as goal

pub returns : goal.returns
returns c = law_index_of_norm

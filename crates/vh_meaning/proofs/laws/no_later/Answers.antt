use Rattle.vh_meaning.proofs.Later.{law_no_later}
use Rattle.vh_meaning.proofs.laws.no_later.Goals as goal

pub returns : goal.returns
returns c = law_no_later

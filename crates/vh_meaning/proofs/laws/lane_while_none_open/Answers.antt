use Rattle.vh_meaning.proofs.Lanes.{law_while_none_open}
use Rattle.vh_meaning.proofs.laws.lane_while_none_open.Goals as goal

pub returns : goal.returns
returns c = law_while_none_open

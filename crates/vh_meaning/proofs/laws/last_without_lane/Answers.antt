use Rattle.vh_meaning.proofs.Lanes.{law_last_without_lane}
use Rattle.vh_meaning.proofs.laws.last_without_lane.Goals as goal

pub returns : goal.returns
returns c = law_last_without_lane

use Rattle.vh_lane.proofs.Lawful.{law_is_grained}
use Rattle.vh_lane.proofs.laws.is_grained.Goals as goal

pub returns : goal.returns
returns c = law_is_grained

use Rattle.vh_points.proofs.Reading.{law_stays_behind}
use Rattle.vh_points.proofs.laws.stays_behind.Goals as goal

pub returns : goal.returns
returns c = law_stays_behind

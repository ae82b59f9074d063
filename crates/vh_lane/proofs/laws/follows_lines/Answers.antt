use Rattle.vh_lane.proofs.Slopes.{law_follows_lines}
use Rattle.vh_lane.proofs.laws.follows_lines.Goals as goal

pub returns : goal.returns
returns c = law_follows_lines

use Rattle.vh_lane.proofs.Meaning.{law_points_mean_values}
use Rattle.vh_lane.proofs.laws.points_mean_values.Goals as goal

pub returns : goal.returns
returns c = law_points_mean_values

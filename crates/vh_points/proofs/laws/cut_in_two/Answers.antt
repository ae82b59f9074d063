use Rattle.vh_points.proofs.Reading.{law_cut_in_two}
use Rattle.vh_points.proofs.laws.cut_in_two.Goals as goal

pub returns : goal.returns
returns c = law_cut_in_two

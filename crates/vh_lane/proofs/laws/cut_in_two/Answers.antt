use Rattle.vh_lane.proofs.Lawful.{law_cut_in_two}
use Rattle.vh_lane.proofs.laws.cut_in_two.Goals as goal

pub returns : goal.returns
returns c = law_cut_in_two

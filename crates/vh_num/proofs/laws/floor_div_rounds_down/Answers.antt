use Rattle.vh_num.proofs.Division.{law_floor_div_rounds_down}
use Rattle.vh_num.proofs.laws.floor_div_rounds_down.Goals as goal

pub returns : goal.returns
returns c = law_floor_div_rounds_down

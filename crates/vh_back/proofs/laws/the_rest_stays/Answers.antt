use Rattle.vh_back.proofs.Telling.{none_stands}
use Rattle.vh_back.proofs.laws.the_rest_stays.Goals as goal

pub returns : goal.returns
returns c = none_stands

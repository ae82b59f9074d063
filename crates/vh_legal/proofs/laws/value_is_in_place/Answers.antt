use Rattle.vh_legal.proofs.InPlace.{law_value_is_in_place}
use Rattle.vh_legal.proofs.laws.value_is_in_place.Goals as goal

pub returns : goal.returns
returns c = law_value_is_in_place

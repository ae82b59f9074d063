use Rattle.vh_legal.proofs.Stops.{law_stops_cut_nothing}
use Rattle.vh_legal.proofs.laws.stops_cut_nothing.Goals as goal

pub returns : goal.returns
returns c = law_stops_cut_nothing

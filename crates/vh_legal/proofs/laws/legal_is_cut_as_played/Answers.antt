use Rattle.vh_legal.proofs.Stops.{law_legal_is_cut_as_played}
use Rattle.vh_legal.proofs.laws.legal_is_cut_as_played.Goals as goal

pub returns : goal.returns
returns c = law_legal_is_cut_as_played

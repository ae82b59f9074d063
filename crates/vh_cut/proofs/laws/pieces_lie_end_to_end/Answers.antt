use Rattle.vh_cut.proofs.EndToEnd.{law_pieces_lie_end_to_end}
use Rattle.vh_cut.proofs.laws.pieces_lie_end_to_end.Goals as goal

pub returns : goal.returns
returns c = law_pieces_lie_end_to_end

use Rattle.vh_core.proofs.Events.{law_events}
use Rattle.vh_core.proofs.laws.events.Goals as goal

pub returns : goal.returns
returns c = law_events c.legal_is_journal.ensures c.pieces_lie_end_to_end.ensures

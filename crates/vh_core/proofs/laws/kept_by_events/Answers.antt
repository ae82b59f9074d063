use Rattle.vh_core.proofs.Sound.{law_kept_by_events}
use Rattle.vh_core.proofs.laws.kept_by_events.Goals as goal

pub returns : goal.returns
returns c = law_kept_by_events

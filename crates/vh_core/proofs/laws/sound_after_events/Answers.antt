use Rattle.vh_core.proofs.Sound.{law_sound_after_events}
use Rattle.vh_core.proofs.laws.sound_after_events.Goals as goal

pub returns : goal.returns
returns c = law_sound_after_events

use Rattle.engine_part.proofs.Banded.{still_whole}
use Rattle.engine_part.proofs.sessions.repeat_session.Goals as goal

pub close-requires-clause-whole : goal.close-requires-clause-whole
close-requires-clause-whole g c κs within = still_whole _ _ _ c.in_ok-parts.ensures.whole c.repeat_parts-parts.ensures.holders

use Rattle.engine_part.proofs.Banded.{still_whole}
use Rattle.engine_part.proofs.Parted.{sizes_of}
use Rattle.engine_part.proofs.sessions.play_session.Goals as goal

pub invariant_of-score : goal.invariant_of-score
invariant_of-score g c =
    let sizes = sizes_of c.args.session in
    record {
      some_channels = sizes.0;
      most_channels = sizes.1;
      most = sizes.2;
      some_frames = c.requires.some;
      most_frames = c.requires.most;
      all = c.requires.input;
    }

pub close-requires-clause-whole : goal.close-requires-clause-whole
close-requires-clause-whole g c κs within = still_whole _ _ _ c.in_ok-parts.ensures.whole c.play_parts-parts.ensures.holders

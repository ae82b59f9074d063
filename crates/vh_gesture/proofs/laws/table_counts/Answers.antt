use Rattle.vh_gesture.proofs.Tracks.{follows_fresh, tracked_same}
use Rattle.vh_gesture.proofs.laws.table_counts.Goals as goal

pub returns : goal.returns
returns c nodes script names = tracked_same (follows_fresh nodes script names).behind

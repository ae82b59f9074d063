use Rattle.vh_gesture.proofs.Tracks.{follows_fresh}
use Rattle.vh_gesture.proofs.laws.table_accepts_script.Goals as goal

pub returns : goal.returns
returns c nodes script names = (follows_fresh nodes script names).accepted

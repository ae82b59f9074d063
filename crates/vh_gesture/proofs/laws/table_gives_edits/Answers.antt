use Rattle.std.proofs.Common.{ap}
use Rattle.vh_gesture.specs.Scripts.{commands}
use Rattle.vh_gesture.proofs.Tracks.{follows_fresh}
use Rattle.vh_gesture.proofs.laws.table_gives_edits.Goals as goal

pub returns : goal.returns
returns c nodes script names = ap commands (follows_fresh nodes script names).accepted

use Rattle.vh_num.proofs.Lawful.{law_has_room}
use Rattle.vh_num.proofs.laws.has_room.Goals as goal

pub returns : goal.returns
returns c = law_has_room

use Rattle.vh_back.proofs.Following.{parts_followed}
use Rattle.vh_back.proofs.laws.the_parts_follow.Goals as goal

pub returns : goal.returns
returns c = parts_followed

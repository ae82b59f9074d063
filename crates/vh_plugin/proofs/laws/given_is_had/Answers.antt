use Rattle.vh_plugin.proofs.Values.{given_had}
use Rattle.vh_plugin.proofs.laws.given_is_had.Goals as goal

pub returns : goal.returns
returns c params old others long same = given_had params old others long same

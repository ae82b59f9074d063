use Rattle.vh_plugin.proofs.Values.{set_read}
use Rattle.vh_plugin.proofs.laws.set_is_read.Goals as goal

pub returns : goal.returns
returns c params values id value long has = set_read params values id value long has

use Rattle.vh_plugin.proofs.Values.{set_within}
use Rattle.vh_plugin.proofs.laws.set_stays_within.Goals as goal

pub returns : goal.returns
returns c params values id value are le = set_within params values id value are le

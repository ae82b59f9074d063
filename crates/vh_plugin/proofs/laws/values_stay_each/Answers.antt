use Rattle.vh_plugin.proofs.Values.{length_at, length_behind}
use Rattle.vh_plugin.proofs.laws.values_stay_each.Goals as goal

pub returns : goal.returns
returns c params queues values offset long = (length_at params queues values offset long, length_behind params queues values long)

use Rattle.vh_plugin.proofs.Values.{own_at, own_behind}
use Rattle.vh_plugin.proofs.laws.points_set_their_own.Goals as goal

pub returns : goal.returns
returns c params queues values offset k d long lt = (own_at params queues values offset k d long lt, own_behind params queues values k d long lt)

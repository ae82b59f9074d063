use Rattle.std.proofs.Common.{◌≡◌, drop}
use Rattle.vh_points.specs.Model.{queues_of}
use Rattle.vh_points.specs.Values.{points_of}
use Rattle.vh_plugin.proofs.kernel.queue_of.Given as goal

abbrev pub invariant-loop-i : goal.invariant-loop-i
invariant-loop-i l = points_of (drop l.i (queues_of l.points)) l.id ≡ points_of (queues_of l.points) l.id

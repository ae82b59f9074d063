use Rattle.std.proofs.Common.{◌-◌, ◌≤◌, ◌^◌, drop, length}
use Rattle.vh_points.specs.Model.{queues_of}
use Rattle.vh_points.specs.Queues.{queue_at}
use Rattle.vh_plugin.specs.Quiet.{GoesOn}
use Rattle.vh_plugin.proofs.kernel.moved.Given as goal

abbrev pub invariant-loop-passed : goal.invariant-loop-passed
invariant-loop-passed l =
    GoesOn (drop l.fn.passed (queue_at (queues_of l.points) l.q).points) l.fn.value (drop l.passed (queue_at (queues_of l.points) l.q).points) l.value l.from
    × (l.value ≤ 2 ^ 24)

abbrev pub decreases-loop-passed : goal.decreases-loop-passed
decreases-loop-passed l = length (queue_at (queues_of l.points) l.q).points - l.passed

use Rattle.std.proofs.Common.{◌≡◌, ◌≤◌, ◌-◌, ◌*◌, length}
use Rattle.vh_points.specs.Model.{queues_of, queue_room, most_points, point_room}
use Rattle.vh_engine.specs.Queued.{most_queues}
use Rattle.vh_engine.proofs.Queueing.{AreSending}
use Rattle.vh_engine.proofs.node.send_all.Given as goal

abbrev pub invariant-loop-control : goal.invariant-loop-control
invariant-loop-control l =
    AreSending l.span l.node l.fn.controls l.control-items l.control-index (queues_of l.points)
    × (most_queues l.points ≡ most_queues l.fn.points)
    × (most_points l.points ≡ most_points l.fn.points)
    × (length l.fn.controls - l.control-index ≤ queue_room l.points)
    × ((length l.fn.controls - l.control-index) * l.span.frames ≤ point_room l.points)

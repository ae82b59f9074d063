use Rattle.std.proofs.Common.{◌≡◌, ◌≤◌, ◌+◌, ◌-◌}
use Rattle.vh_points.specs.Model.{queues_of, queue_room, most_points, point_room}
use Rattle.vh_lane.specs.Kept.{value_of}
use Rattle.vh_lane.proofs.Sending.{IsSent}
use Rattle.vh_lane.proofs.lane.Lane.changes.Given as goal

abbrev pub invariant-loop-s : goal.invariant-loop-s
invariant-loop-s l =
    IsSent l.self.breaks.items (value_of l.self) l.from l.last l.q (queues_of l.fn.out) (point_room l.fn.out) l.s l.passed l.before (queues_of l.out) (point_room l.out)
    × (queue_room l.out ≡ queue_room l.fn.out)
    × (most_points l.out ≡ most_points l.fn.out)
    × (l.s ≤ l.from + (l.to - l.from))

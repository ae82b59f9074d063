use Rattle.std.proofs.Common.{◌≡◌}
use Rattle.vh_points.specs.Model.{queues_of, queue_room, most_points, point_room}
use Rattle.vh_engine.specs.Sent.{value_in}
use Rattle.vh_engine.proofs.Taken.{AreTaken}
use Rattle.vh_engine.proofs.Sending.{IsSending}
use Rattle.vh_engine.proofs.control.Control.send_edited.Given as goal

abbrev pub invariant-loop-offset : goal.invariant-loop-offset
invariant-loop-offset l =
    AreTaken l.span l.node l.fn.self l.offset l.place l.self
    × IsSending (value_in l.span l.node l.fn.self) l.span.from l.fn.self.sent l.q (queues_of l.fn.points) (point_room l.fn.points) l.offset l.self.sent (queues_of l.points) (point_room l.points)
    × (queue_room l.points ≡ queue_room l.fn.points)
    × (most_points l.points ≡ most_points l.fn.points)

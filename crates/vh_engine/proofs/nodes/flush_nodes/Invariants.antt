use Rattle.std.proofs.Common.{◌≡◌}
use Rattle.vh_points.specs.Model.{most_points}
use Rattle.vh_engine.specs.Queued.{most_queues}
use Rattle.vh_engine.proofs.Settled.{AreSettled}
use Rattle.vh_engine.proofs.nodes.flush_nodes.Given as goal

-- the nodes before this one took the values, and the others are as they were
abbrev pub invariant-loop-node : goal.invariant-loop-node
invariant-loop-node g l =
    AreSettled g.P.Processor.class_of g.P.Processor.code g.P.Processor.state g.P.Processor.values g.P.Processor.calls g.P.Life.phase g.P.Life.last_setup l.span l.node l.fn.processors l.processors l.fn.boards l.boards
    × (most_queues l.points ≡ most_queues l.fn.points)
    × (most_points l.points ≡ most_points l.fn.points)

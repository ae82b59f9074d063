use Rattle.std.proofs.Common.{◌<◌, ◌≤◌, ◌^◌, All}
use Rattle.vh_points.specs.Model.{queues_of}
use Rattle.vh_plugin.proofs.Stretches.{AreMoving}
use Rattle.vh_plugin.proofs.kernel.move_all.Given as goal

abbrev pub invariant-loop-i : goal.invariant-loop-i
invariant-loop-i l =
    AreMoving l.ids (queues_of l.points) l.fn.passed l.fn.values l.fn.nexts l.from l.i l.passed l.values l.nexts l.next
    × (l.from < l.next) × (l.next ≤ l.limit) × All (λ value. value ≤ 2 ^ 24) l.values

use Rattle.std.proofs.Common.{◌-◌, ◌≤◌, ◌^◌, length, ◌≡◌, All}
use Rattle.vh_points.specs.Model.{queues_of}
use Rattle.vh_plugin.specs.Quiet.{AllStand}
use Rattle.vh_plugin.proofs.Stretches.{AreGoing}
use Rattle.vh_plugin.proofs.Played.{IsPlayed}
use Rattle.vh_plugin.proofs.kernel.play.Given as goal

abbrev pub invariant-loop-from : goal.invariant-loop-from
invariant-loop-from g l =
    IsPlayed g.K.Kernel.class (g.K.Kernel.state l.fn.kernel) l.channels l.n (queues_of l.points) l.fn.values l.main l.aux l.from (g.K.Kernel.state l.kernel) l.out
    × AreGoing l.ids (queues_of l.points) l.fn.values l.passed l.values l.from
    × All (λ value. value ≤ 2 ^ 24) l.values
    × AllStand l.ids (queues_of l.points) l.passed l.values l.from l.nexts
    × (length l.nexts ≡ length l.ids)

abbrev pub decreases-loop-from : goal.decreases-loop-from
decreases-loop-from g l = l.n - l.from

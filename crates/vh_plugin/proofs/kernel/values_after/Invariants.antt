use Rattle.std.proofs.Common.{◌≤◌, ◌^◌, All}
use Rattle.vh_points.specs.Model.{queues_of}
use Rattle.vh_plugin.specs.Quiet.{AreBehind}
use Rattle.vh_plugin.proofs.kernel.values_after.Given as goal

abbrev pub invariant-loop-i : goal.invariant-loop-i
invariant-loop-i l = AreBehind l.ids (queues_of l.points) l.fn.values l.i l.values × All (λ value. value ≤ 2 ^ 24) l.values

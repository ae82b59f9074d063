use Rattle.std.proofs.Common.{◌≡◌, ◌+◌, length}
use Rattle.vh_points.specs.Model.{queues_of}
use Rattle.builtin_bench.specs.Filled.{IsFilled}
use Rattle.builtin_bench.proofs.fill.Given as goal

abbrev pub invariant-loop-k : goal.invariant-loop-k
invariant-loop-k l = IsFilled l.n (queues_of l.points) × (l.q + 1 ≡ length (queues_of l.points))

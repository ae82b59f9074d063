use Rattle.std.proofs.Common.{◌≡◌, ◌+◌, length}
use Rattle.vh_points.specs.Model.{queues_of}
use Rattle.builtin_tests.proofs.random.Random.fill_queue.Given as goal

abbrev pub invariant-loop-offset : goal.invariant-loop-offset
invariant-loop-offset l = l.q + 1 ≡ length (queues_of l.points)

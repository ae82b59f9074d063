use Rattle.std.proofs.Common.{◌≢◌, ℕ, ◌<◌, get_or}
use Rattle.vh_points.specs.declared.points.Queue.{Queue as Stored}
use Rattle.vh_points.proofs.points.lacks_id.Given as goal

abbrev pub invariant-loop-queue : goal.invariant-loop-queue
invariant-loop-queue l = (i : ℕ) (d : Stored) → i < l.queue-index → (get_or l.queues i d).id ≢ l.id

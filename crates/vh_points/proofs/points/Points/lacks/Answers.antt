use Rattle.std.proofs.Common.{◌≢◌, IsTrue, ℕ, ◌<◌, List, length, get_or, take, subst}
use Rattle.vh_points.specs.declared.points.Queue.{Queue as Stored}
use Rattle.vh_points.proofs.Queueing.{lacks_from, lacks_stored}
use Rattle.vh_points.proofs.points.Points.lacks.Goals as goal

pub returns : goal.returns
returns c =
    let self = c.args.self.now in
    let P : List Stored → Type 0 = λ queues. (IsTrue c.lacks_id.result → (i : ℕ) (d : Stored) → i < length (take self.count queues) → (get_or (take self.count queues) i d).id ≢ c.args.id)
    × (((i : ℕ) (d : Stored) → i < length (take self.count queues) → (get_or (take self.count queues) i d).id ≢ c.args.id) → IsTrue c.lacks_id.result) in
    let h : P self.queues.items = subst P c.deref.ensures.value c.lacks_id.ensures in (
      λ yes. lacks_from self.points.items self.queues.items self.count c.args.id (h.0 yes),
      λ lacks. h.1 (lacks_stored self.points.items self.queues.items self.count c.args.id lacks),
    )

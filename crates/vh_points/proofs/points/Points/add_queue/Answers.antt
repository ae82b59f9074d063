use Rattle.std.proofs.Common.{refl, sym, subst, arith}
use Rattle.vh_points.specs.declared.points.Queue.{Queue as Stored}
use Rattle.vh_points.specs.Queues.{AreLawful}
use Rattle.vh_points.specs.Stored.{queues_in}
use Rattle.vh_points.proofs.Queueing.{placed_queue, queue_added, lawful_queue}
use Rattle.vh_points.proofs.points.Points.add_queue.Goals as goal

pub invariant_of-self-clause-placed : goal.invariant_of-self-clause-placed
invariant_of-self-clause-placed c =
    let old = c.args.self.now in
    let free = c.requires.room in
    let s : Stored = record { id = c.args.id; start = old.used; size = 0 } in
    placed_queue old.queues.items old.count old.used s (omega (arith, free)) refl refl old.placed

pub invariant_of-self-clause-lawful : goal.invariant_of-self-clause-lawful
invariant_of-self-clause-lawful c =
    let old = c.args.self.now in
    let free = c.requires.room in
    let s : Stored = record { id = c.args.id; start = old.used; size = 0 } in
    subst AreLawful (sym (queue_added old.points.items old.queues.items old.count s (omega (arith, free)))) (lawful_queue (queues_in old.queues.items old.points.items old.count) c.args.id c.requires.lacks old.lawful)

use Rattle.std.proofs.Common.{◌+◌, sym, ap, subst, ◌∙◌, arith}
use Rattle.vh_points.specs.declared.points.Queue.{Queue as Stored}
use Rattle.vh_points.specs.Queues.{AreLawful}
use Rattle.vh_points.specs.Stored.{queues_in}
use Rattle.vh_points.proofs.Queueing.{placed_point, point_in, lawful_point, length_queues, length_set}
use Rattle.vh_points.proofs.points.Points.add_point.Goals as goal

pub invariant_of-self-clause-placed : goal.invariant_of-self-clause-placed
invariant_of-self-clause-placed c =
    let old = c.args.self.now in
    let d = c.index_mut-2.result.now in
    let at = c.index_mut-2.ensures.value in
    let s : Stored = record { id = d.id; start = d.start; size = d.size + 1 } in
    placed_point old.queues.items old.count old.used c.args.q s d old.counted (c.requires.last ∙ length_queues old.points.items old.queues.items old.count old.counted)
    (ap (λ (x : Stored). x.start) at) (ap (λ (x : Stored). x.size + 1) at) old.placed

pub invariant_of-self-clause-lawful : goal.invariant_of-self-clause-lawful
invariant_of-self-clause-lawful c =
    let old = c.args.self.now in
    let d = c.index_mut-2.result.now in
    let at = c.index_mut-2.ensures.value in
    let free = c.requires.room in
    let s : Stored = record { id = d.id; start = d.start; size = d.size + 1 } in
    let added = point_in old.points.items old.queues.items old.count old.used c.args.q s d (c.args.offset, c.args.value) old.counted (c.requires.last ∙ length_queues old.points.items old.queues.items old.count old.counted) (omega (arith, free))
    (ap (λ (x : Stored). x.id) at) (ap (λ (x : Stored). x.start) at) (ap (λ (x : Stored). x.size + 1) at) old.placed in
    subst AreLawful (sym added) (lawful_point (queues_in old.queues.items old.points.items old.count) c.args.q (c.args.offset, c.args.value) c.requires.last c.requires.follows c.requires.value old.lawful)

pub returns-clause-added : goal.returns-clause-added
returns-clause-added c =
    let old = c.args.self.now in
    let d = c.index_mut-2.result.now in
    let at = c.index_mut-2.ensures.value in
    let free = c.requires.room in
    let s : Stored = record { id = d.id; start = d.start; size = d.size + 1 } in
    point_in old.points.items old.queues.items old.count old.used c.args.q s d (c.args.offset, c.args.value) old.counted (c.requires.last ∙ length_queues old.points.items old.queues.items old.count old.counted) (omega (arith, free))
    (ap (λ (x : Stored). x.id) at) (ap (λ (x : Stored). x.start) at) (ap (λ (x : Stored). x.size + 1) at) old.placed

pub invariant_of-self-clause-within : goal.invariant_of-self-clause-within
invariant_of-self-clause-within c =
    let old = c.args.self.now in
    let free = c.requires.room in
    let same = length_set old.points.items old.used (c.args.offset, c.args.value) in
    omega (arith, free, same)

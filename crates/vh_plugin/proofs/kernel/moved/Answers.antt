use Rattle.std.proofs.Common.{◌<◌, ◌≤◌, ◌^◌, length, sym, subst, List, ℕ, arith}
use Rattle.vh_points.specs.Model.{queues_of}
use Rattle.vh_points.specs.Queues.{queue_at, no_queue}
use Rattle.vh_plugin.specs.Quiet.{IsMoved}
use Rattle.vh_plugin.proofs.Stretches.{goes_on_point, still_until, is_moved}
use Rattle.vh_plugin.proofs.kernel.moved.Goals as goal

pub returns-then-offset-from-clause-moved : goal.returns-then-offset-from-clause-moved
returns-then-offset-from-clause-moved c =
    let points = (queue_at (queues_of c.args.points.now) c.in-Some.q).points in
    let inside : c.loop-passed.passed < length points = omega (arith, c.loop-passed-test.true, c.queue.ensures.points) in
    let rising = c.args.points.now.lawful.points c.in-Some.q no_queue c.in-Some.ensures.0 in
    subst (λ (ps : List (ℕ × ℕ)). IsMoved ps c.args.passed c.args.value c.args.from c.loop-passed.passed c.loop-passed.value c.min.result) c.in-Some.ensures.1
    (is_moved points c.args.passed c.args.value c.args.from c.loop-passed.passed c.loop-passed.value c.min.result c.loop-passed.invariant.0 (λ place le lt.
    let early : place < c.point-offset.result.0 = omega (arith, lt, c.min.ensures) in
    still_until points c.loop-passed.passed c.loop-passed.value place c.point-offset.result rising inside c.point-offset.ensures.point early))

pub loop-passed-preserved : goal.loop-passed-preserved
loop-passed-preserved c =
    let inside : c.loop-passed.passed < length (queue_at (queues_of c.args.points.now) c.in-Some.q).points = omega (arith, c.loop-passed-test.true, c.queue.ensures.points) in
    let reached : c.point-offset.result.0 ≤ c.args.from = omega (arith, c.if-offset-from.false) in
    let rising = c.args.points.now.lawful.points c.in-Some.q no_queue c.in-Some.ensures.0 in (
      goes_on_point _ _ _ _ _ _ _ c.loop-passed.invariant.0 inside c.point-offset.ensures.point reached,
      subst (λ (point : ℕ × ℕ). point.1 ≤ 2 ^ 24) (sym c.point-offset.ensures.point) (rising.within c.loop-passed.passed (0, 0) inside),
    )

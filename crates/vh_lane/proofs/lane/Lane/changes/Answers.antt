use Rattle.std.proofs.Common.{ℕ, ◌∙◌, List, subst, arith}
use Rattle.vh_lane.specs.Values.{ArePassed}
use Rattle.vh_lane.proofs.Sending.{sent_same, sent_more, sent_follows, sent_room}
use Rattle.vh_lane.proofs.lane.Lane.changes.Goals.{then-value-before, else-value-before}
use Rattle.vh_lane.proofs.lane.Lane.changes.Goals as goal

pub add_point-requires-clause-room : goal.add_point-requires-clause-room
add_point-requires-clause-room c = sent_room _ _ _ _ _ _ _ _ _ _ _ _ c.args.to c.loop-s.invariant.0 c.requires.room c.loop-s-test.true

pub add_point-requires-clause-follows : goal.add_point-requires-clause-follows
add_point-requires-clause-follows c =
    sent_follows _ _ _ _ _ _ _ _ _ _ _ _ c.value_behind-value.result c.loop-s.invariant.0 c.value_behind-value.ensures.value c.if-value-before.true (omega (arith, c.requires.last))

pub loop-s-preserved : goal.loop-s-preserved
loop-s-preserved c =
    let passed = subst (λ (breaks : List (ℕ × ℕ)). ArePassed breaks c.pass-passed.result c.loop-s.s) c.deref-in-loop-s.ensures.value c.pass-passed.ensures in
    elim c.if-value-before.branch [
      | then-value-before w ↦ rw w.out-is (rw w.before-is (
        sent_more _ _ _ _ _ _ _ _ _ _ _ _ c.value_behind-value.result _ _ c.loop-s.invariant.0 passed c.value_behind-value.ensures.value w.if-value-before.true (omega (arith, c.requires.last)) w.add_point.ensures.added w.add_point.ensures.point_room,
        w.add_point.ensures.queue_room ∙ c.loop-s.invariant.1,
        w.add_point.ensures.most_points ∙ c.loop-s.invariant.2,
        omega (arith, c.loop-s.invariant.0.range, c.loop-s-test.true),
      ))
      | else-value-before w ↦ rw w.out-is (rw w.before-is (
        sent_same _ _ _ _ _ _ _ _ _ _ _ _ c.value_behind-value.result c.loop-s.invariant.0 passed c.value_behind-value.ensures.value w.if-value-before.false,
        c.loop-s.invariant.1,
        c.loop-s.invariant.2,
        omega (arith, c.loop-s.invariant.0.range, c.loop-s-test.true),
      ))
    ]

use Rattle.std.proofs.Common.{◌≡◌, ◌≤◌, ◌^◌, ◌+◌, refl, sym, ap, subst, ◌∙◌, arith}
use Rattle.vh_points.specs.Model.{queues_of, point_room}
use Rattle.vh_lane.specs.Changes.{before}
use Rattle.vh_engine.specs.declared.control.Control.{Control}
use Rattle.vh_engine.specs.Controls.{touch_of, IsSame}
use Rattle.vh_engine.specs.Sent.{value_in}
use Rattle.vh_engine.proofs.Taken.{AreTaken, same_self, are_taken_more, are_taken_value, are_taken_all}
use Rattle.vh_engine.proofs.Sending.{IsSending, sending_same, sending_more, sending_follows}
use Rattle.vh_engine.proofs.control.Control.send_edited.Goals.{then-value-self, else-value-self}
use Rattle.vh_engine.proofs.control.Control.send_edited.Goals as goal

pub add_point-requires-clause-follows : goal.add_point-requires-clause-follows
add_point-requires-clause-follows c =
    let span = c.args.span.now in
    let old = c.args.self.now in
    let offset = c.loop-offset.offset in
    let v = c.value_at-value.result in
    let took = c.take_up_to-place in
    let valued : v ≡ value_in span c.args.node old (span.from + offset) = are_taken_value span c.args.node old offset c.loop-offset.place c.loop-offset.self took.result took.new.self v c.loop-offset.invariant.0 took.ensures.place took.ensures.up_to took.ensures.touch took.ensures.same c.value_at-value.ensures.value in
    sending_follows (value_in span c.args.node old) span.from old.sent c.args.q (queues_of c.args.points.now) (point_room c.args.points.now) offset c.loop-offset.self.sent (queues_of c.loop-offset.points) (point_room c.loop-offset.points)
    c.loop-offset.invariant.1 v c.points_mean_values.ensures valued (λ same. c.if-value-self.true (same ∙ sym took.ensures.sent)) (omega (arith, c.requires.last))

pub loop-offset-preserved : goal.loop-offset-preserved
loop-offset-preserved c =
    let span = c.args.span.now in
    let node = c.args.node in
    let old = c.args.self.now in
    let offset = c.loop-offset.offset in
    let v = c.value_at-value.result in
    let took = c.take_up_to-place in
    let new = took.new.self in
    let is = c.loop-offset.invariant in
    let ensures = took.ensures in
    let value = value_in span node old in
    let queues = queues_of c.args.points.now in
    let room = point_room c.args.points.now in
    let now = queues_of c.loop-offset.points in
    let left = point_room c.loop-offset.points in
    let valued : v ≡ value (span.from + offset) = are_taken_value span node old offset c.loop-offset.place c.loop-offset.self took.result new v is.0 ensures.place ensures.up_to ensures.touch ensures.same c.value_at-value.ensures.value in
    let taken = λ (sent : Control) (touch : touch_of sent ≡ touch_of new) (same : IsSame new sent) (within : sent.sent ≤ 2 ^ 24).
    are_taken_more span node old offset c.loop-offset.place c.loop-offset.self took.result new sent is.0 ensures.place ensures.up_to ensures.touch ensures.same ensures.control touch same within in
    elim c.if-value-self.branch [
      | then-value-self w ↦
          let sent : Control = record new { sent = v } in
          let same : IsSame new sent = record { id = refl; steps = refl; shown = refl; lane = refl } in
          rw w.self-is (rw w.points-is (
            taken sent refl same c.value_at-value.ensures.within,
            sending_more value span.from old.sent c.args.q queues room offset c.loop-offset.self.sent now left is.1 v _ _ valued (λ equal. w.if-value-self.true (equal ∙ sym ensures.sent)) (omega (arith, c.requires.last)) w.add_point.ensures.added w.add_point.ensures.point_room,
            w.add_point.ensures.queue_room ∙ is.2,
            w.add_point.ensures.most_points ∙ is.3,
          ))
      | else-value-self w ↦ rw w.self-is (rw w.points-is (
        taken new refl (same_self new) ensures.control.sent,
        subst (λ since. IsSending value span.from old.sent c.args.q queues room (offset + 1) since now left) (sym ensures.sent)
            (sending_same value span.from old.sent c.args.q queues room offset c.loop-offset.self.sent now left is.1 v valued (w.if-value-self.false ∙ ensures.sent)),
        is.2,
        is.3,
      ))
    ]

pub returns-clause-behind : goal.returns-clause-behind
returns-clause-behind c =
    let span = c.args.span.now in
    let node = c.args.node in
    let old = c.args.self.now in
    let place = c.loop-offset.place in
    let now = c.loop-offset.self in
    let end : c.loop-offset.offset ≡ span.frames = omega (arith, c.loop-offset-test.false, c.loop-offset.auto.offset-end) in
    let are : AreTaken span node old span.frames place now = subst (λ n. AreTaken span node old n place now) end c.loop-offset.invariant.0 in
    let all = are_taken_all span node old place now are in
    record {
      touch = all.0;
      sent = c.loop-offset.invariant.1.value_since ∙ ap (λ n. before (value_in span node old) span.from old.sent n) end;
      same = are.has.same;
      control = all.1;
    }

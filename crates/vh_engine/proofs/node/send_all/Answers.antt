use Rattle.std.proofs.Common.{◌≡◌, ◌<◌, length, get_or, false, sym, ap, subst, ◌∙◌, arith}
use Rattle.std.specs.Prelude.{None}
use Rattle.std.proofs.lemmas.List.{set-get_or}
use Rattle.vh_points.specs.Model.{queues_of, point_room}
use Rattle.vh_engine.specs.declared.control.Control.{Control}
use Rattle.vh_engine.specs.Sent.{points_in, IsQueued, IsBehind}
use Rattle.vh_engine.proofs.Queueing.{sending_lacks, sending_next, sending_shown, sending_all, queued_few, room_left}
use Rattle.vh_engine.proofs.node.send_all.Goals.{then-not-control, else-not-control}
use Rattle.vh_engine.proofs.node.send_all.Goals as goal

none : Control
none = record { id = 0; steps = 0; shown = false; lane = None; held = 0; begun = 0; ended = 0; sent = 0 }

pub send-requires-clause-lacks : goal.send-requires-clause-lacks
unfolding none
send-requires-clause-lacks c = λ i d lt same.
    let is = c.loop-control.invariant.0 in
    let place = c.loop-control.control-index in
    let inside : place < length c.args.controls.now = omega (arith, is.long, c.loop-control-test.true) in
    sending_lacks c.args.span.now c.args.node c.args.controls.now c.loop-control.control-items place (queues_of c.loop-control.points) c.requires.controls is inside none i d lt
    (same ∙ ap (λ (control : Control). control.id) (is.rest place none (omega arith) inside))

pub loop-control-preserved : goal.loop-control-preserved
unfolding none
loop-control-preserved c =
    let span = c.args.span.now in
    let node = c.args.node in
    let old = c.args.controls.now in
    let invariant = c.loop-control.invariant in
    let is = invariant.0 in
    let place = c.loop-control.control-index in
    let items = c.loop-control.control-items in
    let queues = queues_of c.loop-control.points in
    let inside : place < length old = omega (arith, is.long, c.loop-control-test.true) in
    let same : get_or items place none ≡ get_or old place none = is.rest place none (omega arith) inside in
    elim c.if-not-control.branch [
      | then-not-control w ↦
          let more = queues_of w.send.new.points in
          let queued : IsQueued (get_or old place none).id (points_in span node (get_or old place none)) queues more = subst (λ (control : Control). IsQueued control.id (points_in span node control) queues more) same w.send.ensures.points in
          let behind : IsBehind span node (get_or old place none) w.send.new.self = subst (λ (control : Control). IsBehind span node control w.send.new.self) same w.send.ensures.behind in
          let few = queued_few (get_or old place none).id (points_in span node (get_or old place none)) queues more queued in
          rw w.control-items-is (rw w.points-is (
            sending_next span node old items place queues c.requires.controls is inside none w.send.new.self more c.points_mean_values.ensures (sym (ap (λ (control : Control). control.shown) same) ∙ w.if-not-control.true) behind queued,
            w.send.ensures.most_queues ∙ invariant.1,
            w.send.ensures.most_points ∙ invariant.2,
            omega (arith, few, w.send.ensures.most_queues, invariant.3, inside),
            room_left (length old) place span.frames (point_room c.loop-control.points) (point_room w.send.new.points) inside invariant.4 w.send.ensures.point_room,
          ))
      | else-not-control w ↦ rw (w.control-items-is, set-get_or items place none) (rw w.points-is (
        sending_shown span node old items place queues c.requires.controls is inside none span.some (sym (ap (λ (control : Control). control.shown) same) ∙ w.if-not-control.false),
        invariant.1,
        invariant.2,
        omega (arith, invariant.3),
        room_left (length old) place span.frames (point_room c.loop-control.points) (point_room c.loop-control.points) inside invariant.4 (omega arith),
      ))
    ]

pub returns-clause-points : goal.returns-clause-points
returns-clause-points c =
    let is = c.loop-control.invariant.0 in
    (sending_all c.args.span.now c.args.node c.args.controls.now c.loop-control.control-items c.loop-control.control-index (queues_of c.loop-control.points) is (omega (arith, is.long, c.loop-control-test.false, c.loop-control.auto.control-index-end))).0

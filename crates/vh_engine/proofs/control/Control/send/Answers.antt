use Rattle.std.proofs.Common.{◌≡◌, ℕ, length, refl, sym, inl, ◌∙◌, arith, rules}
use Rattle.vh_points.specs.Model.{queues_of}
use Rattle.vh_meaning.specs.Steps.{value_now}
use Rattle.vh_engine.specs.Controls.{touch_of, line_of}
use Rattle.vh_engine.proofs.Taken.{same_self, control_less}
use Rattle.vh_engine.proofs.Behind.{behind_elsewhere, filled_queued, filled_length, still_none, still_before}
use Rattle.vh_engine.proofs.control.Control.send.Goals as goal

pub returns-then-is_edited-clause-points : goal.returns-then-is_edited-clause-points
returns-then-is_edited-clause-points c =
    let added = c.add_queue-q in
    filled_queued c.args.span.now c.args.node c.args.self.now added.result (queues_of c.args.points.now) (queues_of added.new.self) (queues_of c.send_edited.new.points) added.ensures.number added.ensures.added c.send_edited.ensures.points

pub returns-then-is_edited-clause-most_queues : goal.returns-then-is_edited-clause-most_queues
returns-then-is_edited-clause-most_queues c =
    let added = c.add_queue-q in
    omega (arith, filled_length c.args.span.now c.args.node c.args.self.now added.result c.args.self.now.id (queues_of c.args.points.now) (queues_of added.new.self) (queues_of c.send_edited.new.points) added.ensures.added c.send_edited.ensures.points, added.ensures.queue_room, c.send_edited.ensures.queue_room)

pub returns-then-self-clause-points : goal.returns-then-self-clause-points
returns-then-self-clause-points c =
    let added = c.add_queue-q-else-is_edited in
    filled_queued c.args.span.now c.args.node c.args.self.now added.result (queues_of c.args.points.now) (queues_of added.new.self) (queues_of c.send_lane.new.points) added.ensures.number added.ensures.added c.send_lane.ensures.points

pub returns-then-self-clause-most_queues : goal.returns-then-self-clause-most_queues
returns-then-self-clause-most_queues c =
    let added = c.add_queue-q-else-is_edited in
    omega (arith, filled_length c.args.span.now c.args.node c.args.self.now added.result c.args.self.now.id (queues_of c.args.points.now) (queues_of added.new.self) (queues_of c.send_lane.new.points) added.ensures.added c.send_lane.ensures.points, added.ensures.queue_room, c.send_lane.ensures.queue_room)

pub returns-then-self-2-clause-points : goal.returns-then-self-2-clause-points
returns-then-self-2-clause-points c =
    let added = c.add_queue-q-then-self-2 in
    filled_queued c.args.span.now c.args.node c.args.self.now added.result (queues_of c.args.points.now) (queues_of added.new.self) (queues_of c.send_held.new.points) added.ensures.number added.ensures.added c.send_held.ensures.points

pub returns-then-self-2-clause-most_queues : goal.returns-then-self-2-clause-most_queues
returns-then-self-2-clause-most_queues c =
    let added = c.add_queue-q-then-self-2 in
    omega (arith, filled_length c.args.span.now c.args.node c.args.self.now added.result c.args.self.now.id (queues_of c.args.points.now) (queues_of added.new.self) (queues_of c.send_held.new.points) added.ensures.added c.send_held.ensures.points, added.ensures.queue_room, c.send_held.ensures.queue_room)

pub returns-else-self-2-clause-points : goal.returns-else-self-2-clause-points
returns-else-self-2-clause-points c =
    let span = c.args.span.now in
    let control = c.args.self.now in
    let held : (s : ℕ) → value_now (line_of span.lanes.now control) (touch_of control) s ≡ control.held = search rules in
    inl (refl, still_none span c.args.node control (c.is_edited.ensures c.if-is_edited.false) held span.some c.if-self-2.false)

pub returns-else-self-2-clause-behind : goal.returns-else-self-2-clause-behind
returns-else-self-2-clause-behind c =
    let span = c.args.span.now in
    let control = c.args.self.now in
    let are = c.is_edited.ensures c.if-is_edited.false in
    let held : (s : ℕ) → value_now (line_of span.lanes.now control) (touch_of control) s ≡ control.held = search rules in
    behind_elsewhere span c.args.node control control are refl (same_self control)
    (c.if-self-2.false ∙ sym (still_before span c.args.node control are held span.some))
    (control_less (length span.lanes.now) (length span.entries.now) 0 control (omega arith) c.requires.control)

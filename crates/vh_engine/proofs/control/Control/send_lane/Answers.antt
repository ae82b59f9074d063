use Rattle.std.proofs.Common.{◌≡◌, ◌+◌, ◌-◌, ℕ, List, refl, sym, ap, ◌∙◌, arith}
use Rattle.vh_points.specs.Model.{queues_of}
use Rattle.vh_lane.specs.Changes.{changes_of, with_points}
use Rattle.vh_lane.specs.Kept.{value_of}
use Rattle.vh_engine.specs.declared.control.Control.{Control}
use Rattle.vh_engine.specs.Controls.{IsSame}
use Rattle.vh_engine.proofs.Taken.{control_sent}
use Rattle.vh_engine.proofs.Behind.{behind_elsewhere, free_points, free_before}
use Rattle.vh_engine.proofs.control.Control.send_lane.Goals as goal

pub returns-clause-points : goal.returns-clause-points
returns-clause-points c =
    let span = c.args.span.now in
    let sent = c.args.self.now.sent in
    let size : span.from + span.frames - span.from ≡ span.frames = omega arith in
    c.changes.ensures.sent
    ∙ ap (λ n. with_points (queues_of c.args.points.now) c.args.q (changes_of (value_of c.args.lane.now) span.from sent n)) size
    ∙ ap (λ (points : List (ℕ × ℕ)). with_points (queues_of c.args.points.now) c.args.q points) (sym (free_points span c.args.node c.args.self.now c.args.lane.now c.requires.elsewhere c.requires.free))

pub returns-clause-behind : goal.returns-clause-behind
returns-clause-behind c =
    let span = c.args.span.now in
    let old = c.args.self.now in
    let new : Control = record old { sent = c.value_at-self.result } in
    let same : IsSame old new = record { id = refl; steps = refl; shown = refl; lane = refl } in
    behind_elsewhere span c.args.node old new c.requires.elsewhere refl same
    (c.value_at-self.ensures.value ∙ sym (free_before span c.args.node old c.args.lane.now c.requires.elsewhere c.requires.free span.some))
    (control_sent _ 0 old new c.requires.control same refl c.value_at-self.ensures.within)

pub returns-clause-point_room : goal.returns-clause-point_room
returns-clause-point_room c =
    let span = c.args.span.now in
    let sent = c.args.self.now.sent in
    let size : span.from + span.frames - span.from ≡ span.frames = omega arith in
    omega (arith, c.changes.ensures.point_room, (c.points_mean_values.ensures (value_of c.args.lane.now) span.from sent (span.from + span.frames - span.from)).few, size)

use Rattle.std.proofs.Common.{refl, sym, ◌∙◌}
use Rattle.vh_points.specs.Model.{queues_of}
use Rattle.vh_engine.specs.declared.control.Control.{Control}
use Rattle.vh_engine.specs.Controls.{IsSame}
use Rattle.vh_engine.proofs.Taken.{same_self, control_sent}
use Rattle.vh_engine.proofs.Behind.{behind_elsewhere, still_before, still_filled, still_same}
use Rattle.vh_engine.proofs.control.Control.send_held.Goals as goal

pub returns-then-self-clause-points : goal.returns-then-self-clause-points
returns-then-self-clause-points c =
    still_filled c.args.span.now c.args.node c.args.self.now c.requires.elsewhere c.requires.held c.args.span.now.some c.args.q (queues_of c.args.points.now) _ c.if-self.true c.requires.empty c.add_point.ensures.added

pub returns-then-self-clause-behind : goal.returns-then-self-clause-behind
returns-then-self-clause-behind c =
    let span = c.args.span.now in
    let old = c.args.self.now in
    let new : Control = record old { sent = old.held } in
    let same : IsSame old new = record { id = refl; steps = refl; shown = refl; lane = refl } in
    behind_elsewhere span c.args.node old new c.requires.elsewhere refl same
    (sym (still_before span c.args.node old c.requires.elsewhere c.requires.held span.some))
    (control_sent _ 0 old new c.requires.control same refl c.requires.control.held)

pub returns-else-self-clause-points : goal.returns-else-self-clause-points
returns-else-self-clause-points c =
    still_same c.args.span.now c.args.node c.args.self.now c.requires.elsewhere c.requires.held c.args.span.now.some c.args.q (queues_of c.args.points.now) c.if-self.false c.requires.empty

pub returns-else-self-clause-behind : goal.returns-else-self-clause-behind
returns-else-self-clause-behind c =
    let span = c.args.span.now in
    let old = c.args.self.now in
    behind_elsewhere span c.args.node old old c.requires.elsewhere refl (same_self old)
    (c.if-self.false ∙ sym (still_before span c.args.node old c.requires.elsewhere c.requires.held span.some))
    c.requires.control

use Rattle.std.proofs.Common.{◌∙◌, Bool, false, cond, get_or, None, sym, ap, arith}
use Rattle.vh_component.specs.States.{of_processing}
use Rattle.vh_counted.specs.Held.{value_of_opened}
use Rattle.vh_engine.specs.declared.control.Control.{Control}
use Rattle.vh_engine.proofs.Seeing.{seen_next, within_next}
use Rattle.vh_engine.proofs.seen.see_node.Goals.{then-control, else-control}
use Rattle.vh_engine.proofs.seen.see_node.Goals as goal

abbrev none : Control
none = record { id = 0; steps = 0; shown = false; lane = None; held = 0; begun = 0; ended = 0; sent = 0 }

pub loop-place-preserved : goal.loop-place-preserved
loop-place-preserved g c =
    let value = value_of_opened (of_processing c.args.processor.now) in
    let class = g.P.Processor.class_of (g.P.Processor.code value) in
    let state = g.P.Processor.state value in
    let board = c.args.board.now in
    let place = c.loop-place.place in
    let control : Control = get_or board place none in
    let is = c.loop-place.invariant in
    elim c.if-control.branch [
      | then-control w ↦
          let said = rw w.value.ensures at w.shown.ensures.value in
          let next = seen_next class state board c.loop-place.values place none c.if-control.values (omega (arith, c.loop-place-test.true, c.loop-place.auto.place-end)) is.0 is.1
          (w.values-is ∙ said ∙ sym (ap (λ (b : Bool). cond b (class.shown state control.id) control.sent) w.if-control.true)) in
          (next.0, next.1, within_next c.loop-place.values place c.if-control.values (omega (arith, c.loop-place-test.true, c.loop-place.auto.place-end, is.0)) is.2 (omega (arith, w.values-is, w.shown.ensures.within)))
      | else-control w ↦
          let next = seen_next class state board c.loop-place.values place none c.if-control.values (omega (arith, c.loop-place-test.true, c.loop-place.auto.place-end)) is.0 is.1
          (w.values-is ∙ sym (ap (λ (b : Bool). cond b (class.shown state control.id) control.sent) w.if-control.false)) in (
            next.0,
            next.1,
            within_next c.loop-place.values place c.if-control.values (omega (arith, c.loop-place-test.true, c.loop-place.auto.place-end, is.0)) is.2
                (let least = c.requires.sent place none (omega (arith, c.loop-place-test.true, c.loop-place.auto.place-end)) in omega (arith, w.values-is, least)),
          )
    ]

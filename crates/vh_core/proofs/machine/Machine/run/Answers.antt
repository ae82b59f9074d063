use Rattle.std.proofs.Common.{◌∙◌, List, length, sym, ap, arith}
use Rattle.std.proofs.lemmas.List.{take_all}
use Rattle.vh_session.specs.Names.{content_of}
use Rattle.vh_core.specs.declared.event.Event.{Event}
use Rattle.vh_core.specs.Run.{Run, stepped, through}
use Rattle.vh_core.proofs.Through.{through_next, puts_stepped, sound_seen}
use Rattle.vh_core.proofs.Standing.{on_err}
use Rattle.vh_core.proofs.machine.Machine.run.Goals as goal

pub loop-event-preserved : goal.loop-event-preserved
loop-event-preserved g c =
    let events = c.args.events.now in
    let place = c.loop-event.event-index in
    let run = c.args.self.now in
    let event = c.event-item.result in
    let few = c.loop-event.invariant.few in
    let more = puts_stepped g.P.Processor.class_of event c.loop-event.self in
    let longer = ap (λ (r : Run). length r.state.puts) c.in_ok-step.ensures.ok in
    record {
      run = c.in_ok-step.ensures.ok ∙ ap (stepped g.P.Processor.class_of event) c.loop-event.invariant.run ∙ sym (through_next g.P.Processor.class_of events place event run c.event-item.is c.loop-event-test.true);
      few = omega (arith, few, more, longer);
    }

pub returns-in_err-step-clause-err : goal.returns-in_err-step-clause-err
returns-in_err-step-clause-err g c = on_err c.from_residual.result (c.loop-event.event-index, c.loop-event-test.true, c.in_err-step.ensures.err ∙ c.loop-event.invariant.run)

pub returns-clause-ok : goal.returns-clause-ok
returns-clause-ok g c = c.loop-event.invariant.run ∙ ap (λ (l : List Event). through g.P.Processor.class_of l c.args.self.now) (take_all c.loop-event.event-index c.args.events.now c.loop-event-test.false)

pub returns-clause-sound : goal.returns-clause-sound
returns-clause-sound g c =
    sound_seen g.P.Processor.class_of g.P.Processor.code g.P.Processor.state g.P.Life.phase g.P.Life.last_setup (content_of c.self.inside.session.now) c.self.inside.plan c.self.inside.room c.self.inside.processors.items c.self.inside.kept _ c.self.view_is c.self.invariant

use Rattle.std.proofs.Common.{◌≡◌, ◌∙◌, sym, subst}
use Rattle.std.specs.Prelude.{OnOk, OnErr}
use Rattle.std.specs.Vec.{with_items}
use Rattle.std.proofs.lemmas.List.{with_items_is}
use Rattle.vh_session.specs.Names.{content_of}
use Rattle.vh_core.specs.declared.event.Event.TheVariants.{Audio}
use Rattle.vh_core.specs.Run.{Run, stepped}
use Rattle.vh_core.specs.Kept.{run_in}
use Rattle.vh_core.specs.Machine.{IsMachine}
use Rattle.vh_core.proofs.machine.Machine.audio.Goals as goal

pub audio-requires : goal.audio-requires
audio-requires g c =
    let inside = c.self.inside in
    record { machine = subst (λ l. IsMachine g.P.Processor.class_of g.P.Processor.code g.P.Processor.state g.P.Life.phase g.P.Life.last_setup (content_of inside.session.now) inside.plan inside.room l inside.kept) (sym c.deref_mut.ensures.value) c.self.invariant }

pub invariant_of-self : goal.invariant_of-self
invariant_of-self g c =
    let inside = c.self.inside in
    let session = content_of inside.session.now in
    let plan = inside.plan in
    let news = c.audio.new.processors in
    let kept = c.audio.new.kept in
    let written = with_items_is inside.processors news (c.audio.auto.processors ∙ c.deref_mut.ensures.len) in
    subst (λ l. IsMachine g.P.Processor.class_of g.P.Processor.code g.P.Processor.state g.P.Life.phase g.P.Life.last_setup session plan c.audio.new.room l kept) (sym written) c.audio.ensures.machine

pub returns-clause-ok : goal.returns-clause-ok
returns-clause-ok g c =
    let inside = c.self.inside in
    let session = content_of inside.session.now in
    let plan = inside.plan in
    let news = c.audio.new.processors in
    let kept = c.audio.new.kept in
    let written = with_items_is inside.processors news (c.audio.auto.processors ∙ c.deref_mut.ensures.len) in
    subst (λ (r : Run). OnOk c.audio.result (run_in g.P.Processor.code session plan (with_items inside.processors news).items kept ≡ stepped g.P.Processor.class_of (Audio c.args.take c.args.frames) r)) c.self.view_is
    (subst (λ l. OnOk c.audio.result (run_in g.P.Processor.code session plan l kept ≡ stepped g.P.Processor.class_of (Audio c.args.take c.args.frames) (run_in g.P.Processor.code session plan inside.processors.items inside.kept))) (sym written)
    (subst (λ l. OnOk c.audio.result (run_in g.P.Processor.code session plan news kept ≡ stepped g.P.Processor.class_of (Audio c.args.take c.args.frames) (run_in g.P.Processor.code session plan l inside.kept))) c.deref_mut.ensures.value c.audio.ensures.ok))

pub returns-clause-err : goal.returns-clause-err
returns-clause-err g c =
    let inside = c.self.inside in
    let session = content_of inside.session.now in
    let plan = inside.plan in
    let news = c.audio.new.processors in
    let kept = c.audio.new.kept in
    let written = with_items_is inside.processors news (c.audio.auto.processors ∙ c.deref_mut.ensures.len) in
    subst (λ (r : Run). OnErr c.audio.result (run_in g.P.Processor.code session plan (with_items inside.processors news).items kept ≡ r)) c.self.view_is
    (subst (λ l. OnErr c.audio.result (run_in g.P.Processor.code session plan l kept ≡ run_in g.P.Processor.code session plan inside.processors.items inside.kept)) (sym written)
    (subst (λ l. OnErr c.audio.result (run_in g.P.Processor.code session plan news kept ≡ run_in g.P.Processor.code session plan l inside.kept)) c.deref_mut.ensures.value c.audio.ensures.err))

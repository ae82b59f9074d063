use Rattle.std.proofs.Common.{◌∙◌, ◌<◌, ◌-◌, ◌^◌, List, length, refl, sym, ap, subst}
use Rattle.std.specs.Prelude.{All}
use Rattle.std.proofs.lemmas.List.Elements.{All-append}
use Rattle.vh_session.specs.Names.{content_of}
use Rattle.vh_core.specs.declared.event.Event.TheVariants.{Put}
use Rattle.vh_core.specs.declared.kept.Kept.{Kept}
use Rattle.vh_core.specs.declared.sent.Sent.{Sent}
use Rattle.vh_core.specs.Accepting.{sent_by}
use Rattle.vh_core.specs.Run.{Run, stepped}
use Rattle.vh_core.specs.Playing.{setting_by, IsPlayable}
use Rattle.vh_core.specs.Kept.{IsSameKept}
use Rattle.vh_core.proofs.Gone.{IsQuiet, quiet_run, quiet_machine, put_is}
use Rattle.vh_core.proofs.Playable.{sent_playable}
use Rattle.vh_core.proofs.Standing.{on_err, run_same, machine_same}
use Rattle.vh_core.proofs.machine.Machine.put.Goals as goal

pub put-requires : goal.put-requires
put-requires g c = subst (λ (r : Run). length r.state.puts < 2 ^ 32 - 1) (sym c.self.view_is) c.requires

pub invariant_of-self : goal.invariant_of-self
invariant_of-self g c =
    let inside = c.self.inside in
    let session = content_of inside.session.now in
    let plan = inside.plan in
    let processors = inside.processors.items in
    let old = inside.kept in
    let new : Kept = record old { puts = c.put.new.puts; inbox = c.put.new.inbox } in
    let same : IsSameKept old new = record { puts = c.in_err-put.ensures.same_puts; inbox = c.in_err-put.ensures.same_inbox; journal = refl; pos = refl; frames = refl; flushed = refl; returns = refl; values = refl; controllers = refl } in
    machine_same g.P.Processor.class_of g.P.Processor.code g.P.Processor.state g.P.Life.phase g.P.Life.last_setup session plan processors old new same inside.room c.self.invariant

pub invariant_of-self-2 : goal.invariant_of-self-2
invariant_of-self-2 g c =
    let inside = c.self.inside in
    let session = content_of inside.session.now in
    let plan = inside.plan in
    let processors = inside.processors.items in
    let old = inside.kept in
    let new : Kept = record old { puts = c.put.new.puts; inbox = c.put.new.inbox } in
    let setting = setting_by g.P.Processor.class_of g.P.Processor.code session plan.firsts.items processors in
    let quiet : IsQuiet old new = record { journal = refl; pos = refl; frames = refl; flushed = refl; values = refl } in
    let is = put_is setting session.channels c.args.editor c.args.word old new quiet c.in_ok-put.ensures.puts c.in_ok-put.ensures.inbox refl refl in
    let waits : All (λ sent. IsPlayable (length session.nodes) sent.command) c.put.new.inbox.items =
    subst (λ (l : List Sent). All (λ sent. IsPlayable (length session.nodes) sent.command) l) (sym c.in_ok-put.ensures.inbox)
    (All-append (λ (sent : Sent). IsPlayable (length session.nodes) sent.command) old.inbox.items (sent_by session.nodes old.puts.items c.args.editor c.args.word) c.self.invariant.current.waits (sent_playable session.nodes old.puts.items c.args.editor c.args.word)) in
    quiet_machine g.P.Processor.class_of g.P.Processor.code g.P.Processor.state g.P.Life.phase g.P.Life.last_setup session plan inside.room processors old new c.self.invariant quiet (Put c.args.editor c.args.word) is waits

pub returns-in_err-put-clause-err : goal.returns-in_err-put-clause-err
returns-in_err-put-clause-err g c =
    let inside = c.self.inside in
    let session = content_of inside.session.now in
    let plan = inside.plan in
    let processors = inside.processors.items in
    let old = inside.kept in
    let new : Kept = record old { puts = c.put.new.puts; inbox = c.put.new.inbox } in
    let same : IsSameKept old new = record { puts = c.in_err-put.ensures.same_puts; inbox = c.in_err-put.ensures.same_inbox; journal = refl; pos = refl; frames = refl; flushed = refl; returns = refl; values = refl; controllers = refl } in
    on_err c.from_residual.result (run_same g.P.Processor.class_of g.P.Processor.code g.P.Processor.state g.P.Life.phase g.P.Life.last_setup session plan processors old new same ∙ c.self.view_is)

pub returns-clause-ok : goal.returns-clause-ok
returns-clause-ok g c =
    let inside = c.self.inside in
    let session = content_of inside.session.now in
    let plan = inside.plan in
    let processors = inside.processors.items in
    let old = inside.kept in
    let new : Kept = record old { puts = c.put.new.puts; inbox = c.put.new.inbox } in
    let setting = setting_by g.P.Processor.class_of g.P.Processor.code session plan.firsts.items processors in
    let quiet : IsQuiet old new = record { journal = refl; pos = refl; frames = refl; flushed = refl; values = refl } in
    let is = put_is setting session.channels c.args.editor c.args.word old new quiet c.in_ok-put.ensures.puts c.in_ok-put.ensures.inbox refl refl in
    let waits : All (λ sent. IsPlayable (length session.nodes) sent.command) c.put.new.inbox.items =
    subst (λ (l : List Sent). All (λ sent. IsPlayable (length session.nodes) sent.command) l) (sym c.in_ok-put.ensures.inbox)
    (All-append (λ (sent : Sent). IsPlayable (length session.nodes) sent.command) old.inbox.items (sent_by session.nodes old.puts.items c.args.editor c.args.word) c.self.invariant.current.waits (sent_playable session.nodes old.puts.items c.args.editor c.args.word)) in
    quiet_run g.P.Processor.class_of g.P.Processor.code g.P.Processor.state g.P.Life.phase g.P.Life.last_setup session plan inside.room processors old new c.self.invariant quiet (Put c.args.editor c.args.word) is waits
    ∙ ap (stepped g.P.Processor.class_of (Put c.args.editor c.args.word)) c.self.view_is

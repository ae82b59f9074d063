use Rattle.std.proofs.Common.{◌∙◌, map, take, refl, ap}
use Rattle.std.specs.Vec.{with_items}
use Rattle.std.proofs.lemmas.List.{with_items_is}
use Rattle.vh_session.specs.Names.{content_of}
use Rattle.vh_core.specs.declared.event.Event.TheVariants.{Back}
use Rattle.vh_core.specs.declared.kept.Kept.{Kept}
use Rattle.vh_core.specs.Run.{stepped}
use Rattle.vh_core.specs.Steps.{given}
use Rattle.vh_core.specs.Playing.{setting_by}
use Rattle.vh_core.specs.Kept.{return_of}
use Rattle.vh_core.proofs.Gone.{IsQuiet, quiet_run, quiet_machine, back_is}
use Rattle.vh_core.proofs.machine.Machine.give_back.Goals as goal

pub invariant_of-self : goal.invariant_of-self
invariant_of-self g c =
    let inside = c.self.inside in
    let session = content_of inside.session.now in
    let plan = inside.plan in
    let processors = inside.processors.items in
    let old = inside.kept in
    let controllers = with_items old.controllers c.give_back.new.controllers in
    let new : Kept = record old { returns = c.give_back.new.returns; controllers = controllers } in
    let setting = setting_by g.P.Processor.class_of g.P.Processor.code session plan.firsts.items processors in
    let quiet : IsQuiet old new = record { journal = refl; pos = refl; frames = refl; flushed = refl; values = refl } in
    let written = with_items_is old.controllers c.give_back.new.controllers (c.give_back.auto.controllers ∙ c.deref_mut.ensures.len) in
    let is = back_is setting session.channels c.args.take old new quiet refl refl c.give_back.ensures.returns
    (written ∙ c.give_back.ensures.controllers ∙ ap (given (take c.args.take (map return_of old.returns.items))) c.deref_mut.ensures.value) in
    quiet_machine g.P.Processor.class_of g.P.Processor.code g.P.Processor.state g.P.Life.phase g.P.Life.last_setup session plan inside.room processors old new c.self.invariant quiet (Back c.args.take) is c.self.invariant.current.waits

pub returns : goal.returns
returns g c =
    let inside = c.self.inside in
    let session = content_of inside.session.now in
    let plan = inside.plan in
    let processors = inside.processors.items in
    let old = inside.kept in
    let controllers = with_items old.controllers c.give_back.new.controllers in
    let new : Kept = record old { returns = c.give_back.new.returns; controllers = controllers } in
    let setting = setting_by g.P.Processor.class_of g.P.Processor.code session plan.firsts.items processors in
    let quiet : IsQuiet old new = record { journal = refl; pos = refl; frames = refl; flushed = refl; values = refl } in
    let written = with_items_is old.controllers c.give_back.new.controllers (c.give_back.auto.controllers ∙ c.deref_mut.ensures.len) in
    let is = back_is setting session.channels c.args.take old new quiet refl refl c.give_back.ensures.returns
    (written ∙ c.give_back.ensures.controllers ∙ ap (given (take c.args.take (map return_of old.returns.items))) c.deref_mut.ensures.value) in
    quiet_run g.P.Processor.class_of g.P.Processor.code g.P.Processor.state g.P.Life.phase g.P.Life.last_setup session plan inside.room processors old new c.self.invariant quiet (Back c.args.take) is c.self.invariant.current.waits
    ∙ ap (stepped g.P.Processor.class_of (Back c.args.take)) c.self.view_is

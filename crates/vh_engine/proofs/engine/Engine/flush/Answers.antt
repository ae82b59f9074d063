use Rattle.std.proofs.Common.{◌≡◌, ◌+◌, ◌++◌, ℕ, false, List, map, sym, subst}
use Rattle.vh_num.specs.Frames.{Frame}
use Rattle.vh_plugin.specs.Counts.{raised}
use Rattle.vh_journal.specs.declared.entry.Entry.{Entry as Stored}
use Rattle.vh_meaning.specs.Rendering.{last_values, answers}
use Rattle.vh_engine.specs.Engine.{kept_in}
use Rattle.vh_engine.specs.Kept.{Kept, scene_in, Stands, MayCarry, IsSameEngine}
use Rattle.vh_engine.proofs.engine.Engine.flush.Goals as goal

pub finish_with-requires-clause-end : goal.finish_with-requires-clause-end
finish_with-requires-clause-end g c = subst (λ (k : Kept). k.at ≡ k.session.length) (sym c.self.view_is) c.requires.end

pub finish_with-requires-clause-entries : goal.finish_with-requires-clause-entries
finish_with-requires-clause-entries g c = subst (λ (k : Kept). MayCarry (scene_in g.P.Processor.class_of k) k.at (k.at + 1) k.room c.args.entries.now) (sym c.self.view_is) c.requires.entries

pub finish_with-requires-clause-going : goal.finish_with-requires-clause-going
finish_with-requires-clause-going g c = subst (λ (k : Kept). k.flushed ≡ false) (sym c.self.view_is) c.requires.going

pub returns-clause-values : goal.returns-clause-values
returns-clause-values g c =
    subst (λ (k : Kept). (input : List Frame) (h : List Stored) → Stands g.P.Processor.class_of k input h
    → c.finish_with.new.work.values.items ≡ last_values (scene_in g.P.Processor.class_of k) input (h ++ c.args.entries.now)) c.self.view_is c.finish_with.ensures.values

pub returns-clause-answers : goal.returns-clause-answers
returns-clause-answers g c =
    subst (λ (k : Kept). (input : List Frame) (h : List Stored) → Stands g.P.Processor.class_of k input h
    → (kept_in g.P.Processor.code g.P.Processor.state g.P.Processor.calls c.finish_with.new.parts c.finish_with.new.work).answers ≡ answers (scene_in g.P.Processor.class_of k) input (h ++ c.args.entries.now)) c.self.view_is c.finish_with.ensures.answers

pub returns-clause-calls : goal.returns-clause-calls
returns-clause-calls g c = subst (λ (k : Kept). (kept_in g.P.Processor.code g.P.Processor.state g.P.Processor.calls c.finish_with.new.parts c.finish_with.new.work).calls ≡ map raised k.calls) c.self.view_is c.finish_with.ensures.calls

pub returns-clause-at : goal.returns-clause-at
returns-clause-at g c = subst (λ (k : Kept). c.finish_with.new.work.pos ≡ k.at) c.self.view_is c.finish_with.ensures.at

pub returns-clause-same : goal.returns-clause-same
returns-clause-same g c = subst (λ (k : Kept). IsSameEngine k (kept_in g.P.Processor.code g.P.Processor.state g.P.Processor.calls c.finish_with.new.parts c.finish_with.new.work)) c.self.view_is c.finish_with.ensures.same

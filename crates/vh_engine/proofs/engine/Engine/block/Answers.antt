use Rattle.std.proofs.Common.{◌≡◌, ◌<◌, ◌≤◌, ◌+◌, ◌*◌, ◌++◌, ℕ, false, List, length, map, sym, subst}
use Rattle.vh_num.specs.Frames.{Frame}
use Rattle.vh_plugin.specs.Counts.{raised}
use Rattle.vh_journal.specs.declared.entry.Entry.{Entry as Stored}
use Rattle.vh_meaning.specs.Rendering.{seen_before, stops}
use Rattle.vh_engine.specs.Engine.{kept_in}
use Rattle.vh_engine.specs.Kept.{Kept, scene_in, Stands, MayCarry, AreInput, AreOut, IsSameEngine}
use Rattle.vh_engine.proofs.engine.Engine.block.Goals as goal

pub render-requires-clause-most : goal.render-requires-clause-most
render-requires-clause-most g c = subst (λ (k : Kept). c.args.n ≤ k.max) (sym c.self.view_is) c.requires.most

pub render-requires-clause-within : goal.render-requires-clause-within
render-requires-clause-within g c = subst (λ (k : Kept). k.at + c.args.n ≤ k.session.length) (sym c.self.view_is) c.requires.within

pub render-requires-clause-entries : goal.render-requires-clause-entries
render-requires-clause-entries g c = subst (λ (k : Kept). MayCarry (scene_in g.P.Processor.class_of k) k.at (k.at + c.args.n) k.room c.args.entries.now) (sym c.self.view_is) c.requires.entries

pub render-requires-clause-ins : goal.render-requires-clause-ins
render-requires-clause-ins g c = subst (λ (k : Kept). length c.args.ins.now ≡ k.session.channels * c.args.n) (sym c.self.view_is) c.requires.ins

pub render-requires-clause-outs : goal.render-requires-clause-outs
render-requires-clause-outs g c = subst (λ (k : Kept). length c.args.outs.now ≡ k.session.channels * c.args.n) (sym c.self.view_is) c.requires.outs

pub render-requires-clause-going : goal.render-requires-clause-going
render-requires-clause-going g c = subst (λ (k : Kept). k.flushed ≡ false) (sym c.self.view_is) c.requires.going

pub returns-clause-out : goal.returns-clause-out
returns-clause-out g c =
    subst (λ (k : Kept). (input : List Frame) (h : List Stored) → Stands g.P.Processor.class_of k input h → AreInput (scene_in g.P.Processor.class_of k) input k.at c.args.n c.args.ins.now
    → AreOut (scene_in g.P.Processor.class_of k) input (h ++ c.args.entries.now) k.at c.args.n c.render.new.outs) c.self.view_is c.render.ensures.out

pub returns-clause-stands : goal.returns-clause-stands
returns-clause-stands g c =
    subst (λ (k : Kept). (input : List Frame) (h : List Stored) → Stands g.P.Processor.class_of k input h → AreInput (scene_in g.P.Processor.class_of k) input k.at c.args.n c.args.ins.now
    → Stands g.P.Processor.class_of (kept_in g.P.Processor.code g.P.Processor.state g.P.Processor.calls c.render.new.parts c.render.new.work) input (h ++ c.args.entries.now)) c.self.view_is c.render.ensures.stands

pub returns-clause-values : goal.returns-clause-values
returns-clause-values g c =
    subst (λ (k : Kept). (input : List Frame) (h : List Stored) → Stands g.P.Processor.class_of k input h → AreInput (scene_in g.P.Processor.class_of k) input k.at c.args.n c.args.ins.now
    → c.render.new.work.values.items ≡ seen_before (scene_in g.P.Processor.class_of k) input (h ++ c.args.entries.now) (k.at + c.args.n)) c.self.view_is c.render.ensures.values

pub returns-clause-calls : goal.returns-clause-calls
returns-clause-calls g c = subst (λ (k : Kept). (kept_in g.P.Processor.code g.P.Processor.state g.P.Processor.calls c.render.new.parts c.render.new.work).calls ≡ map raised k.calls) c.self.view_is c.render.ensures.calls

pub returns-clause-at : goal.returns-clause-at
returns-clause-at g c = subst (λ (k : Kept). c.render.new.work.pos ≡ k.at + c.args.n) c.self.view_is c.render.ensures.at

pub returns-clause-room : goal.returns-clause-room
returns-clause-room g c = subst (λ (k : Kept). (kept_in g.P.Processor.code g.P.Processor.state g.P.Processor.calls c.render.new.parts c.render.new.work).room + length (stops c.args.entries.now) ≡ k.room) c.self.view_is c.render.ensures.room

pub returns-clause-same : goal.returns-clause-same
returns-clause-same g c = subst (λ (k : Kept). IsSameEngine k (kept_in g.P.Processor.code g.P.Processor.state g.P.Processor.calls c.render.new.parts c.render.new.work)) c.self.view_is c.render.ensures.same

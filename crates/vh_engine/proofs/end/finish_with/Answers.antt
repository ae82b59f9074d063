use Rattle.std.proofs.Common.{◌≡◌, ◌∙◌, ◌+◌, ◌++◌, ℕ, List, length, map, refl, sym, ap, arith}
use Rattle.vh_plugin.specs.Counts.{raised}
use Rattle.vh_meaning.specs.Stands.{Standing}
use Rattle.vh_engine.specs.Engine.{kept_in}
use Rattle.vh_engine.specs.Kept.{standing_in}
use Rattle.vh_engine.specs.Parts.{scene_by}
use Rattle.vh_engine.proofs.Carried.{flush_stands}
use Rattle.vh_engine.proofs.Ending.{last_seen}
use Rattle.vh_engine.proofs.Rooms.{room_for, flushed_to, same_scene, same_twice}
use Rattle.vh_engine.proofs.end.finish_with.Goals as goal

pub begin-requires-clause-ready : goal.begin-requires-clause-ready
begin-requires-clause-ready g c =
    let end = c.requires.end in
    room_for g.P.Processor.class_of g.P.Processor.code g.P.Processor.values g.P.Life.phase g.P.Life.last_setup c.args.parts.now c.args.work.now (length c.args.entries.now) c.requires.going
    (omega (arith, end)) c.requires.engine

pub settle_all-requires : goal.settle_all-requires
settle_all-requires g c =
    let end = c.requires.end in
    record {
      ready = c.begin.ensures.ready 0
          (room_for g.P.Processor.class_of g.P.Processor.code g.P.Processor.values g.P.Life.phase g.P.Life.last_setup c.args.parts.now c.args.work.now (length c.args.entries.now + 0) c.requires.going
          (omega (arith, end)) c.requires.engine);
    }

pub show-requires : goal.show-requires
show-requires g c =
    let end = c.requires.end in
    record {
      ready = c.settle_all.ensures.ready 0 (c.begin.ensures.ready 0
          (room_for g.P.Processor.class_of g.P.Processor.code g.P.Processor.values g.P.Life.phase g.P.Life.last_setup c.args.parts.now c.args.work.now (length c.args.entries.now + 0) c.requires.going
          (omega (arith, end)) c.requires.engine));
    }

pub returns-clause-engine : goal.returns-clause-engine
returns-clause-engine g c =
    let end = c.requires.end in
    flushed_to g.P.Processor.class_of g.P.Processor.code g.P.Processor.values g.P.Life.phase g.P.Life.last_setup c.settle_all.new.parts c.show.new.work (c.show.ensures.ready 0 (c.settle_all.ensures.ready 0 (c.begin.ensures.ready 0
    (room_for g.P.Processor.class_of g.P.Processor.code g.P.Processor.values g.P.Life.phase g.P.Life.last_setup c.args.parts.now c.args.work.now (length c.args.entries.now + 0) c.requires.going
    (omega (arith, end)) c.requires.engine))))

pub returns-clause-values : goal.returns-clause-values
returns-clause-values g c =
    λ input h stands.
    c.show.ensures.values c.begin.new.work.pos c.settle_all.ensures.current
    ∙ last_seen (scene_by g.P.Processor.class_of g.P.Processor.code c.args.parts.now) (scene_by g.P.Processor.class_of g.P.Processor.code c.settle_all.new.parts)
    (standing_in (kept_in g.P.Processor.code g.P.Processor.state g.P.Processor.calls c.args.parts.now c.args.work.now))
    (standing_in (kept_in g.P.Processor.code g.P.Processor.state g.P.Processor.calls c.begin.new.parts c.begin.new.work))
    (standing_in (kept_in g.P.Processor.code g.P.Processor.state g.P.Processor.calls c.settle_all.new.parts c.settle_all.new.work))
    c.args.work.now.pos c.begin.new.work.pos input h c.args.entries.now
    (same_scene g.P.Processor.class_of _ _ (same_twice _ _ _ c.begin.ensures.same c.settle_all.ensures.same)) c.settle_all.ensures.standing c.begin.ensures.count.at c.requires.end
    stands c.requires.entries.next c.requires.entries.within c.begin.ensures.applied

pub returns-clause-answers : goal.returns-clause-answers
returns-clause-answers g c =
    λ input h stands.
    let after = flush_stands (scene_by g.P.Processor.class_of g.P.Processor.code c.args.parts.now)
    (standing_in (kept_in g.P.Processor.code g.P.Processor.state g.P.Processor.calls c.args.parts.now c.args.work.now))
    (standing_in (kept_in g.P.Processor.code g.P.Processor.state g.P.Processor.calls c.begin.new.parts c.begin.new.work))
    c.args.work.now.pos input h c.args.entries.now stands c.requires.entries.next c.begin.ensures.applied in
    ap (λ (x : Standing). x.answers) (c.show.ensures.standing ∙ c.settle_all.ensures.standing) ∙ after.answers

pub returns-clause-calls : goal.returns-clause-calls
returns-clause-calls g c = c.settle_all.ensures.calls ∙ ap (λ (l : List ℕ). map raised l) c.begin.ensures.count.calls

pub returns-clause-same : goal.returns-clause-same
returns-clause-same g c =
    let same = same_twice _ _ _ c.begin.ensures.same c.settle_all.ensures.same in
    record {
      session = same.session;
      codes = same.codes;
      firsts = same.firsts;
      holders = same.holders;
      max = c.show.ensures.max ∙ same.max;
    }

use Rattle.std.proofs.Common.{rules, ◌≡◌, ◌∙◌, ◌<◌, ◌≤◌, ◌+◌, ◌-◌, ◌*◌, ◌^◌, ◌++◌, ℕ, Bool, false, List, ℤ, length, take, drop, refl, sym, ap, subst, arith, length-take}
use Rattle.std.specs.Prelude.{All, Vec}
use Rattle.std.specs.declared.alloc.Global.{Global}
use Rattle.std.proofs.lemmas.List.Elements.{All-take, All-drop}
use Rattle.vh_num.specs.Frames.{Frame, frame_at}
use Rattle.vh_session.specs.Content.{Content}
use Rattle.vh_journal.specs.declared.entry.Entry.{Entry as Stored}
use Rattle.vh_meaning.specs.Frames.{out_of}
use Rattle.vh_meaning.specs.Rendering.{seen_at, of_all, seen_before, stops}
use Rattle.vh_meaning.specs.Scene.{Scene}
use Rattle.vh_meaning.specs.Stands.{Standing, StandsFor}
use Rattle.vh_meaning.specs.Steps.{values_in}
use Rattle.vh_meaning.specs.World.{input_at}
use Rattle.vh_meaning.proofs.Blocks.{law_seen_from_kept}
use Rattle.vh_engine.specs.Between.{AreBetween}
use Rattle.vh_engine.specs.Blocks.{HasGoneOver, AreCurrent}
use Rattle.vh_engine.specs.Staged.{boards_of}
use Rattle.vh_engine.specs.declared.control.Control.{Control}
use Rattle.vh_engine.specs.Buses.{frames_at, rows_of}
use Rattle.vh_engine.specs.Kept.{Kept, IsFor, AreInput, standing_in}
use Rattle.vh_engine.specs.Engine.{kept_in}
use Rattle.vh_engine.specs.Parts.{scene_by}
use Rattle.vh_engine.proofs.Carried.{IsBegun, rendered_stands, rendered_out, gone_over, out_over, stands_over}
use Rattle.vh_engine.proofs.Rooms.{room_for, engine_at, same_scene, same_twice}
use Rattle.vh_engine.proofs.Splits.{rest_of, split_is, first_all, rest_edits, stops_of_first, rest_between, lengths}
use Rattle.vh_engine.proofs.block.render.Goals as goal

pub begin-requires-clause-ready : goal.begin-requires-clause-ready
begin-requires-clause-ready g c =
    let count = c.head_of-head.ensures.count in
    let within = c.requires.within in
    let some = c.requires.some in
    let sizes = lengths c.args.entries.now c.head_of-head.result in
    room_for g.P.Processor.class_of g.P.Processor.code g.P.Processor.values g.P.Life.phase g.P.Life.last_setup c.args.parts.now c.args.work.now (length (take c.head_of-head.result c.args.entries.now)) c.requires.going
    (omega (arith, count, within, some, sizes)) c.requires.engine

pub begin-requires-clause-few : goal.begin-requires-clause-few
begin-requires-clause-few g c =
    let few = c.requires.entries.few in
    subst (λ (l : List ℕ). length l ≤ (kept_in g.P.Processor.code g.P.Processor.state g.P.Processor.calls c.args.parts.now c.args.work.now).room)
    (sym (stops_of_first c.args.entries.now c.head_of-head.result c.args.work.now.pos c.head_of-head.ensures.up_to c.requires.entries.next.messages)) few

pub run-requires-clause-ready : goal.run-requires-clause-ready
run-requires-clause-ready g c =
    let count = c.head_of-head.ensures.count in
    let within = c.requires.within in
    let some = c.requires.some in
    let head = c.head_of-head.result in
    let entries = c.args.entries.now in
    let sizes = lengths entries head in
    c.begin.ensures.ready (length (rest_of entries head))
    (room_for g.P.Processor.class_of g.P.Processor.code g.P.Processor.values g.P.Life.phase g.P.Life.last_setup c.args.parts.now c.args.work.now (length (take head entries) + length (rest_of entries head)) c.requires.going
    (omega (arith, count, within, some, sizes)) c.requires.engine)

pub run-requires-clause-between : goal.run-requires-clause-between
run-requires-clause-between g c =
    subst (λ (at : ℕ). AreBetween at (at + c.args.n) (rest_of c.args.entries.now c.head_of-head.result)) (sym c.begin.ensures.count.at)
    (rest_between c.args.entries.now c.head_of-head.result c.args.work.now.pos c.head_of-head.ensures.up_to (c.args.work.now.pos + c.args.n) c.requires.entries.next.rising c.requires.entries.within)

pub run-requires-clause-commands : goal.run-requires-clause-commands
run-requires-clause-commands g c =
    let head = c.head_of-head.result in
    let entries = c.args.entries.now in
    let scene = scene_by g.P.Processor.class_of g.P.Processor.code c.args.parts.now in
    subst (λ (s : Scene). All (λ (e : Stored). IsFor s e.command) (rest_of entries head)) (sym (same_scene g.P.Processor.class_of _ _ c.begin.ensures.same))
    (All-take (λ (e : Stored). IsFor scene e.command) (length entries - head) (drop head entries) (All-drop (λ (e : Stored). IsFor scene e.command) head entries c.requires.entries.commands))

pub put_out-requires-clause-ready : goal.put_out-requires-clause-ready
put_out-requires-clause-ready g c =
    let count = c.head_of-head.ensures.count in
    let within = c.requires.within in
    let some = c.requires.some in
    let head = c.head_of-head.result in
    let entries = c.args.entries.now in
    let sizes = lengths entries head in
    c.run.ensures.ready 0 (c.begin.ensures.ready (length (rest_of entries head) + 0)
    (room_for g.P.Processor.class_of g.P.Processor.code g.P.Processor.values g.P.Life.phase g.P.Life.last_setup c.args.parts.now c.args.work.now (length (take head entries) + (length (rest_of entries head) + 0)) c.requires.going
    (omega (arith, count, within, some, sizes)) c.requires.engine))

pub show-requires : goal.show-requires
show-requires g c =
    let count = c.head_of-head.ensures.count in
    let within = c.requires.within in
    let some = c.requires.some in
    let head = c.head_of-head.result in
    let entries = c.args.entries.now in
    let sizes = lengths entries head in
    record {
      ready = c.put_out.ensures.ready 0 (c.run.ensures.ready 0 (c.begin.ensures.ready (length (rest_of entries head) + 0)
          (room_for g.P.Processor.class_of g.P.Processor.code g.P.Processor.values g.P.Life.phase g.P.Life.last_setup c.args.parts.now c.args.work.now (length (take head entries) + (length (rest_of entries head) + 0)) c.requires.going
          (omega (arith, count, within, some, sizes)) c.requires.engine)));
    }

pub returns-clause-engine : goal.returns-clause-engine
returns-clause-engine g c =
    let count = c.head_of-head.ensures.count in
    let within = c.requires.within in
    let some = c.requires.some in
    let head = c.head_of-head.result in
    let entries = c.args.entries.now in
    let sizes = lengths entries head in
    let session = ap (λ (k : Content). k.length) (same_twice _ _ _ c.begin.ensures.same c.run.ensures.same).session in
    let at : c.show.new.work.pos ≡ c.args.work.now.pos = c.show.ensures.at ∙ ap (λ (k : Kept). k.at) c.put_out.ensures.kept ∙ c.run.ensures.at ∙ c.begin.ensures.count.at in
    let long : c.run.new.parts.session.length ≡ c.args.parts.now.session.length = session in
    let going : c.show.new.work.flushed ≡ false = c.show.ensures.flushed ∙ ap (λ (k : Kept). k.flushed) c.put_out.ensures.kept ∙ c.run.ensures.flushed ∙ c.begin.ensures.count.flushed ∙ c.requires.going in
    let room = (c.run.new.parts.session.length + 1 - (c.show.new.work.pos + c.args.n)) * 2 ^ 64 in
    engine_at g.P.Processor.class_of g.P.Processor.code g.P.Processor.values g.P.Life.phase g.P.Life.last_setup c.run.new.parts c.show.new.work (c.show.new.work.pos + c.args.n) (omega (arith, at, long, within)) going
    (c.show.ensures.ready room (c.put_out.ensures.ready room (c.run.ensures.ready room (c.begin.ensures.ready (length (rest_of entries head) + room)
    (room_for g.P.Processor.class_of g.P.Processor.code g.P.Processor.values g.P.Life.phase g.P.Life.last_setup c.args.parts.now c.args.work.now (length (take head entries) + (length (rest_of entries head) + room)) c.requires.going
    (omega (arith, count, within, some, sizes, at, long)) c.requires.engine)))))

pub returns-clause-room : goal.returns-clause-room
returns-clause-room g c =
    let first = ap (λ (l : List ℕ). length l) (stops_of_first c.args.entries.now c.head_of-head.result c.args.work.now.pos c.head_of-head.ensures.up_to c.requires.entries.next.messages) in
    let one = c.begin.ensures.room in
    let two = c.run.ensures.room in
    let three = ap (λ (k : Kept). k.room) c.put_out.ensures.kept in
    let four = c.show.ensures.room in
    omega (arith, first, one, two, three, four)

pub returns-clause-out : goal.returns-clause-out
returns-clause-out g c =
    λ input h stands are place lt.
    let head = c.head_of-head.result in
    let entries = c.args.entries.now in
    let at = c.args.work.now.pos in
    let upto = c.head_of-head.ensures.up_to in
    let next = c.requires.entries.next in
    let scene = scene_by g.P.Processor.class_of g.P.Processor.code c.args.parts.now in
    let rows = rows_of c.run.new.work.rows.items in
    let begun : IsBegun scene (standing_in (kept_in g.P.Processor.code g.P.Processor.state g.P.Processor.calls c.args.parts.now c.args.work.now))
    (standing_in (kept_in g.P.Processor.code g.P.Processor.state g.P.Processor.calls c.begin.new.parts c.begin.new.work)) at c.args.n entries (take head entries) (rest_of entries head) = record {
      whole = split_is entries head;
      next = next;
      upto = c.requires.entries.within;
      first = first_all entries head at upto;
      edits = rest_edits entries head at upto next.messages;
      same = c.begin.ensures.applied;
    } in
    let gone = gone_over _ scene _ _ _ at c.args.n c.args.ins.now (rest_of entries head) rows (same_scene g.P.Processor.class_of _ _ c.begin.ensures.same) c.begin.ensures.count.at c.run.ensures.over in
    out_over _ scene at c.args.n c.args.ins.now c.put_out.new.outs rows (same_scene g.P.Processor.class_of _ _ (same_twice _ _ _ c.begin.ensures.same c.run.ensures.same)) (c.put_out.ensures.out at) input are place lt
    ∙ rendered_out scene _ _ _ at c.args.n c.args.ins.now entries (take head entries) (rest_of entries head) rows c.requires.engine.graph (let some = c.requires.some in omega (arith, some)) begun gone input h stands are place lt

pub returns-clause-stands : goal.returns-clause-stands
returns-clause-stands g c =
    λ input h stands are.
    let head = c.head_of-head.result in
    let entries = c.args.entries.now in
    let at = c.args.work.now.pos in
    let upto = c.head_of-head.ensures.up_to in
    let next = c.requires.entries.next in
    let scene = scene_by g.P.Processor.class_of g.P.Processor.code c.args.parts.now in
    let rows = rows_of c.run.new.work.rows.items in
    let begun : IsBegun scene (standing_in (kept_in g.P.Processor.code g.P.Processor.state g.P.Processor.calls c.args.parts.now c.args.work.now))
    (standing_in (kept_in g.P.Processor.code g.P.Processor.state g.P.Processor.calls c.begin.new.parts c.begin.new.work)) at c.args.n entries (take head entries) (rest_of entries head) = record {
      whole = split_is entries head;
      next = next;
      upto = c.requires.entries.within;
      first = first_all entries head at upto;
      edits = rest_edits entries head at upto next.messages;
      same = c.begin.ensures.applied;
    } in
    let gone = gone_over _ scene _ _ _ at c.args.n c.args.ins.now (rest_of entries head) rows (same_scene g.P.Processor.class_of _ _ c.begin.ensures.same) c.begin.ensures.count.at c.run.ensures.over in
    let here : c.show.new.work.pos ≡ at = c.show.ensures.at ∙ ap (λ (k : Kept). k.at) c.put_out.ensures.kept ∙ c.run.ensures.at ∙ c.begin.ensures.count.at in
    stands_over scene _ _ _ (at + c.args.n) (c.show.new.work.pos + c.args.n) input (h ++ entries)
    (sym (same_scene g.P.Processor.class_of _ _ (same_twice _ _ _ c.begin.ensures.same c.run.ensures.same)))
    (sym (c.show.ensures.standing ∙ ap standing_in c.put_out.ensures.kept))
    (ap (λ (t : ℕ). t + c.args.n) (sym here))
    (rendered_stands scene _ _ _ at c.args.n c.args.ins.now entries (take head entries) (rest_of entries head) rows c.requires.engine.graph (let some = c.requires.some in omega (arith, some)) begun gone input h stands are)

pub returns-clause-values : goal.returns-clause-values
returns-clause-values g c =
    λ input h stands are.
    let head = c.head_of-head.result in
    let entries = c.args.entries.now in
    let at = c.args.work.now.pos in
    let upto = c.head_of-head.ensures.up_to in
    let next = c.requires.entries.next in
    let scene = scene_by g.P.Processor.class_of g.P.Processor.code c.args.parts.now in
    let other = scene_by g.P.Processor.class_of g.P.Processor.code c.run.new.parts in
    let rows = rows_of c.run.new.work.rows.items in
    let some = c.requires.some in
    let begun : IsBegun scene (standing_in (kept_in g.P.Processor.code g.P.Processor.state g.P.Processor.calls c.args.parts.now c.args.work.now))
    (standing_in (kept_in g.P.Processor.code g.P.Processor.state g.P.Processor.calls c.begin.new.parts c.begin.new.work)) at c.args.n entries (take head entries) (rest_of entries head) = record {
      whole = split_is entries head;
      next = next;
      upto = c.requires.entries.within;
      first = first_all entries head at upto;
      edits = rest_edits entries head at upto next.messages;
      same = c.begin.ensures.applied;
    } in
    let gone = gone_over _ scene _ _ _ at c.args.n c.args.ins.now (rest_of entries head) rows (same_scene g.P.Processor.class_of _ _ c.begin.ensures.same) c.begin.ensures.count.at c.run.ensures.over in
    let s = at + c.args.n - 1 in
    let last : at + c.args.n ≡ s + 1 = omega (arith, some) in
    let same : other ≡ scene = same_scene g.P.Processor.class_of _ _ (same_twice _ _ _ c.begin.ensures.same c.run.ensures.same) in
    let begin_at = c.begin.ensures.count.at in
    let kept = kept_in g.P.Processor.code g.P.Processor.state g.P.Processor.calls c.run.new.parts c.put_out.new.work in
    let current = subst (λ (l : List (Vec Control Global)). AreCurrent c.run.new.parts.session.lanes.items s (boards_of l)) (sym c.put_out.ensures.boards) (c.run.ensures.current s (omega (arith, last, begin_at))) in
    c.show.ensures.values s current
    ∙ law_seen_from_kept other (standing_in kept) s input (h ++ entries)
    (stands_over scene other _ _ (at + c.args.n) (s + 1) input (h ++ entries) (sym same) (sym (ap standing_in c.put_out.ensures.kept)) last
    (rendered_stands scene _ _ _ at c.args.n c.args.ins.now entries (take head entries) (rest_of entries head) rows c.requires.engine.graph (omega (arith, some)) begun gone input h stands are))
    ∙ ap (λ (t : ℕ). seen_before other input (h ++ entries) t) (sym last)
    ∙ ap (λ (x : Scene). seen_before x input (h ++ entries) (at + c.args.n)) same

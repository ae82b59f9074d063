use Rattle.std.proofs.Common.{◌≡◌, ◌∙◌, ℕ, ◌+◌, ◌-◌, ◌<◌, ◌≤◌, List, [], ◌∷◌, ◌++◌, length, take, sym, ap, subst, arith}
use Rattle.std.proofs.lemmas.List.{take_more}
use Rattle.vh_journal.specs.declared.entry.Entry.{Entry}
use Rattle.vh_meaning.specs.Scene.{node_count}
use Rattle.vh_plugin.specs.Class.{Class}
use Rattle.vh_engine.specs.declared.control.Control.{Control}
use Rattle.vh_engine.specs.Staged.{of_all, boards_of}
use Rattle.vh_engine.specs.Told.{HaveTaken, IsOnNode, AreReady, IsStage}
use Rattle.vh_engine.proofs.Takes.{boards_taken_more, stage_taken, ready_with_less, all_sent, long_of_all}
use Rattle.vh_engine.proofs.Telling.{one_more_applied, stops_more, stops_least}
use Rattle.vh_engine.proofs.told.apply_all.Goals as goal

-- ready for one entry and so many more
less : (class_of : ℕ → Class) (codes : List ℕ) (lanes i count room most : ℕ) (boards : List (List Control)) → i < count → AreReady class_of codes lanes (count - i + room) most boards → AreReady class_of codes lanes (1 + (count - (i + 1) + room)) most boards
less class_of codes lanes i count room most boards lt ready =
    let same : count - i + room ≡ 1 + (count - (i + 1) + room) = omega (arith, lt) in
    subst (λ (n : ℕ). AreReady class_of codes lanes n most boards) same ready

pub apply-requires-clause-ready : goal.apply-requires-clause-ready
apply-requires-clause-ready g c =
    let i = c.loop-entry.entry-index in
    let entries = c.args.entries.now in
    let count = length entries in
    let class_of = g.P.Processor.class_of in
    let codes = of_all g.P.Processor.code c.loop-entry.processors in
    let boards = boards_of c.loop-entry.boards in
    let more : i < count = omega arith in
    let whole : count ≡ count + 0 = omega arith in
    let left = count - (i + 1) in
    let least : 1 ≤ 1 + (left + 0) = omega arith in
    ready_with_less class_of codes (length c.args.lanes.now) (1 + (left + 0)) 1 (length c.loop-entry.given) boards least
    (less class_of codes (length c.args.lanes.now) i count 0 (length c.loop-entry.given) boards more
    (c.loop-entry.invariant.ready 0 (subst (λ (n : ℕ). AreReady class_of (of_all g.P.Processor.code c.args.processors.now) (length c.args.lanes.now) n (length c.args.given.now) (boards_of c.args.boards.now)) whole c.requires.ready)))

pub apply-requires-clause-room : goal.apply-requires-clause-room
apply-requires-clause-room g c =
    let i = c.loop-entry.entry-index in
    let entries = c.args.entries.now in
    let more : i < length entries = omega arith in
    let is = c.loop-entry.invariant in
    omega (arith, is.replies, is.capacity, c.requires.room, stops_more entries i c.entry-item.result more c.entry-item.is, stops_least entries (i + 1))

pub loop-entry-preserved : goal.loop-entry-preserved
loop-entry-preserved g c =
    let i = c.loop-entry.entry-index in
    let entries = c.args.entries.now in
    let count = length entries in
    let entry = c.entry-item.result in
    let is = c.loop-entry.invariant in
    let lanes = c.args.lanes.now in
    let class_of = g.P.Processor.class_of in
    let processors = c.args.processors.now in
    let codes = of_all g.P.Processor.code processors in
    let olds = boards_of c.args.boards.now in
    let nows = boards_of c.loop-entry.boards in
    let news = boards_of c.apply.new.boards in
    let more : i < count = omega arith in
    let next : take (i + 1) entries ≡ take i entries ++ entry ∷ [] = take_more entries i entry more ∙ ap (λ (e : Entry). take i entries ++ e ∷ []) (sym c.entry-item.is) in
    record {
      taken = subst (λ (l : List Entry). HaveTaken lanes l olds news) (sym next) (boards_taken_more lanes (take i entries) (entry ∷ []) olds nows news is.taken c.apply.ensures.taken);
      applied = λ scene stage.
          let here : IsStage class_of (of_all g.P.Processor.code c.loop-entry.processors) scene lanes nows =
          subst (λ (l : List ℕ). IsStage class_of l scene lanes nows) (sym is.codes) (stage_taken class_of codes scene lanes (take i entries) olds nows is.taken stage) in
          let wide : length processors ≡ node_count scene = sym (ap (λ (l : List ℕ). length l) stage.codes_are ∙ long_of_all g.P.Processor.code processors) in
          let on : IsOnNode (node_count scene) entry.command =
          subst (λ (n : ℕ). IsOnNode n entry.command) wide (subst (λ (e : Entry). IsOnNode (length processors) e.command) (sym c.entry-item.is) (c.requires.nodes i entry more)) in
          one_more_applied scene c.args.sample entries i entry _ _ _ more c.entry-item.is on (is.applied scene stage) (c.apply.ensures.applied scene here);
      ready = λ room old. c.apply.ensures.ready (count - (i + 1) + room)
          (less class_of (of_all g.P.Processor.code c.loop-entry.processors) (length lanes) i count room (length c.loop-entry.given) nows more (is.ready room old));
      codes = c.apply.ensures.codes ∙ is.codes;
      values = c.apply.ensures.values ∙ is.values;
      calls = c.apply.ensures.calls ∙ is.calls;
      phases = c.apply.ensures.phases ∙ is.phases;
      setups = c.apply.ensures.setups ∙ is.setups;
      holders = c.apply.ensures.holders ∙ is.holders;
      given = c.apply.ensures.given ∙ is.given;
      replies = omega (arith, c.apply.ensures.replies, is.replies, stops_more entries i entry more c.entry-item.is);
      capacity = c.apply.ensures.capacity ∙ is.capacity;
    }

pub returns-clause-stage : goal.returns-clause-stage
returns-clause-stage g c = λ scene stage.
    let is = c.loop-entry.invariant in
    let nows = boards_of c.loop-entry.boards in
    subst (λ (l : List ℕ). IsStage g.P.Processor.class_of l scene c.args.lanes.now nows) (sym is.codes)
    (stage_taken g.P.Processor.class_of (of_all g.P.Processor.code c.args.processors.now) scene c.args.lanes.now (take c.loop-entry.entry-index c.args.entries.now) (boards_of c.args.boards.now) nows is.taken stage)

pub returns-clause-ready : goal.returns-clause-ready
returns-clause-ready g c = λ room old.
    let i = c.loop-entry.entry-index in
    let count = length c.args.entries.now in
    let all : count ≤ i = omega arith in
    let none : count - i + room ≡ room = omega (arith, all) in
    subst (λ (n : ℕ). AreReady g.P.Processor.class_of (of_all g.P.Processor.code c.loop-entry.processors) (length c.args.lanes.now) n (length c.loop-entry.given) (boards_of c.loop-entry.boards)) none (c.loop-entry.invariant.ready room old)

pub returns-clause-sent : goal.returns-clause-sent
returns-clause-sent g c =
    all_sent c.args.lanes.now (take c.loop-entry.entry-index c.args.entries.now) (boards_of c.args.boards.now) (boards_of c.loop-entry.boards) c.loop-entry.invariant.taken

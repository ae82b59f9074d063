use Rattle.std.proofs.Common.{◌≡◌, ◌∙◌, ℕ, ◌+◌, ◌≤◌, List, length, map, sym, ap, subst, arith, Vec, vec_len, vec_capacity}
use Rattle.std.specs.Vec.{with_items}
use Rattle.std.specs.declared.alloc.Global.{Global}
use Rattle.vh_component.specs.declared.states.Processing.{Processing}
use Rattle.vh_lane.specs.declared.lane.Lane.{Lane}
use Rattle.vh_engine.specs.declared.control.Control.{Control}
use Rattle.vh_engine.specs.Parts.{scene_by}
use Rattle.vh_engine.specs.Staged.{of_all, boards_of, answer_of, standing_of}
use Rattle.vh_engine.specs.Told.{HaveTaken, AreReady, IsStage}
use Rattle.vh_engine.proofs.Begun.{boards_ready, begun_ready, kept_standing, respelled}
use Rattle.vh_engine.proofs.Rows.{written}
use Rattle.vh_engine.proofs.block.begin.Goals as goal

pub apply_all-requires-clause-ready : goal.apply_all-requires-clause-ready
apply_all-requires-clause-ready g c =
    let parts = c.args.parts.now in
    let work = c.args.work.now in
    let class_of = g.P.Processor.class_of in
    let code = g.P.Processor.code in
    let count = length c.args.entries.now in
    subst (λ (l : List (Processing g.row.P.Denot)). AreReady class_of (of_all code l) (length c.deref.result.now) count (length c.deref_mut-3.result.now) (boards_of c.deref_mut-2.result.now)) (sym c.deref_mut.ensures.value)
    (subst (λ (l : List (ℕ × ℕ × Lane)). AreReady class_of (of_all code parts.processors.items) (length l) count (length c.deref_mut-3.result.now) (boards_of c.deref_mut-2.result.now)) (sym c.deref.ensures.value)
    (subst (λ (l : List ℕ). AreReady class_of (of_all code parts.processors.items) (length parts.session.lanes.items) count (length l) (boards_of c.deref_mut-2.result.now)) (sym c.deref_mut-3.ensures.value)
    (subst (λ (l : List (Vec Control Global)). AreReady class_of (of_all code parts.processors.items) (length parts.session.lanes.items) count (length work.given.items) (boards_of l)) (sym c.deref_mut-2.ensures.value)
    (boards_ready class_of code g.P.Processor.values g.P.Life.phase g.P.Life.last_setup parts work count c.requires.ready))))

pub returns-clause-ready : goal.returns-clause-ready
returns-clause-ready g c = λ room ready.
    let parts = c.args.parts.now in
    let work = c.args.work.now in
    let class_of = g.P.Processor.class_of in
    let code = g.P.Processor.code in
    let entries = c.args.entries.now in
    let lanes = parts.session.lanes.items in
    let scene = scene_by class_of code parts in
    let olds = c.deref_mut.result.now in
    let news = c.apply_all.new.processors in
    let boards = c.apply_all.new.boards in
    let given = c.apply_all.new.given in
    let replies = c.apply_all.new.replies in
    let processors_are : (with_items parts.processors news).items ≡ news = written parts.processors olds news c.deref_mut.ensures.value c.apply_all.auto.processors in
    let boards_are : (with_items work.boards boards).items ≡ boards = written work.boards c.deref_mut-2.result.now boards c.deref_mut-2.ensures.value c.apply_all.auto.boards in
    let given_is : (with_items work.given given).items ≡ given = written work.given c.deref_mut-3.result.now given c.deref_mut-3.ensures.value c.apply_all.auto.given in
    let codes : of_all code news ≡ of_all code parts.processors.items = c.apply_all.ensures.codes ∙ ap (of_all code) c.deref_mut.ensures.value in
    let taken : HaveTaken lanes entries (boards_of work.boards.items) (boards_of boards) =
    subst (λ (l : List (ℕ × ℕ × Lane)). HaveTaken l entries (boards_of work.boards.items) (boards_of boards)) c.deref.ensures.value
    (subst (λ (l : List (Vec Control Global)). HaveTaken c.deref.result.now entries (boards_of l) (boards_of boards)) c.deref_mut-2.ensures.value c.apply_all.ensures.taken) in
    let was : IsStage class_of (of_all code olds) scene c.deref.result.now (boards_of c.deref_mut-2.result.now) =
    subst (λ (l : List (Processing g.row.P.Denot)). IsStage class_of (of_all code l) scene c.deref.result.now (boards_of c.deref_mut-2.result.now)) (sym c.deref_mut.ensures.value)
    (subst (λ (l : List (ℕ × ℕ × Lane)). IsStage class_of (of_all code parts.processors.items) scene l (boards_of c.deref_mut-2.result.now)) (sym c.deref.ensures.value)
    (subst (λ (l : List (Vec Control Global)). IsStage class_of (of_all code parts.processors.items) scene lanes (boards_of l)) (sym c.deref_mut-2.ensures.value) ready.stage)) in
    let stage : IsStage class_of (of_all code news) scene lanes (boards_of boards) =
    subst (λ (l : List (ℕ × ℕ × Lane)). IsStage class_of (of_all code news) scene l (boards_of boards)) c.deref.ensures.value (c.apply_all.ensures.stage scene was) in
    let many : length given ≡ length work.given.items = c.apply_all.ensures.given ∙ ap (λ (l : List ℕ). length l) c.deref_mut-3.ensures.value in
    let before : AreReady class_of (of_all code olds) (length c.deref.result.now) (length entries + room) (length c.deref_mut-3.result.now) (boards_of c.deref_mut-2.result.now) =
    subst (λ (l : List (Processing g.row.P.Denot)). AreReady class_of (of_all code l) (length c.deref.result.now) (length entries + room) (length c.deref_mut-3.result.now) (boards_of c.deref_mut-2.result.now)) (sym c.deref_mut.ensures.value)
    (subst (λ (l : List (ℕ × ℕ × Lane)). AreReady class_of (of_all code parts.processors.items) (length l) (length entries + room) (length c.deref_mut-3.result.now) (boards_of c.deref_mut-2.result.now)) (sym c.deref.ensures.value)
    (subst (λ (l : List ℕ). AreReady class_of (of_all code parts.processors.items) (length lanes) (length entries + room) (length l) (boards_of c.deref_mut-2.result.now)) (sym c.deref_mut-3.ensures.value)
    (subst (λ (l : List (Vec Control Global)). AreReady class_of (of_all code parts.processors.items) (length lanes) (length entries + room) (length work.given.items) (boards_of l)) (sym c.deref_mut-2.ensures.value)
    (boards_ready class_of code g.P.Processor.values g.P.Life.phase g.P.Life.last_setup parts work (length entries + room) ready)))) in
    let after : AreReady class_of (of_all code news) (length lanes) room (length given) (boards_of boards) =
    subst (λ (l : List (ℕ × ℕ × Lane)). AreReady class_of (of_all code news) (length l) room (length given) (boards_of boards)) c.deref.ensures.value (c.apply_all.ensures.ready room before) in
    let few : vec_len replies ≤ vec_capacity replies = let least = c.requires.few in let is = ready.replies in omega (arith, c.apply_all.ensures.replies, c.apply_all.ensures.capacity, least, is) in
    begun_ready class_of code g.P.Processor.values g.P.Life.phase g.P.Life.last_setup parts work (with_items parts.processors news) (with_items work.boards boards) (with_items work.given given) replies entries room g.met.P.Processor.lawful
    (ap (of_all code) processors_are ∙ codes)
    (ap (of_all g.P.Life.phase) processors_are ∙ c.apply_all.ensures.phases ∙ ap (of_all g.P.Life.phase) c.deref_mut.ensures.value)
    (ap (of_all g.P.Life.last_setup) processors_are ∙ c.apply_all.ensures.setups ∙ ap (of_all g.P.Life.last_setup) c.deref_mut.ensures.value)
    (ap (of_all g.P.Processor.values) processors_are ∙ c.apply_all.ensures.values ∙ ap (of_all g.P.Processor.values) c.deref_mut.ensures.value)
    (subst (λ (l : List (Vec Control Global)). HaveTaken lanes entries (boards_of work.boards.items) (boards_of l)) (sym boards_are) taken)
    (subst (λ (l : List (Processing g.row.P.Denot)). IsStage class_of (of_all code l) scene lanes (boards_of (with_items work.boards boards).items)) (sym processors_are)
    (subst (λ (l : List (Vec Control Global)). IsStage class_of (of_all code news) scene lanes (boards_of l)) (sym boards_are) stage))
    (subst (λ (l : List (Processing g.row.P.Denot)). AreReady class_of (of_all code l) (length lanes) room (length (with_items work.given given).items) (boards_of (with_items work.boards boards).items)) (sym processors_are)
    (subst (λ (l : List ℕ). AreReady class_of (of_all code news) (length lanes) room (length l) (boards_of (with_items work.boards boards).items)) (sym given_is)
    (subst (λ (l : List (Vec Control Global)). AreReady class_of (of_all code news) (length lanes) room (length given) (boards_of l)) (sym boards_are) after)))
    (ap (λ (l : List ℕ). length l) given_is ∙ many)
    few c.requires.commands ready

pub returns-clause-applied : goal.returns-clause-applied
returns-clause-applied g c =
    let parts = c.args.parts.now in
    let work = c.args.work.now in
    let class_of = g.P.Processor.class_of in
    let code = g.P.Processor.code in
    let state = g.P.Processor.state in
    let entries = c.args.entries.now in
    let scene = scene_by class_of code parts in
    let olds = c.deref_mut.result.now in
    let news = c.apply_all.new.processors in
    let boards = c.apply_all.new.boards in
    let answers = map answer_of c.apply_all.new.replies.items in
    let processors_are : (with_items parts.processors news).items ≡ news = written parts.processors olds news c.deref_mut.ensures.value c.apply_all.auto.processors in
    let boards_are : (with_items work.boards boards).items ≡ boards = written work.boards c.deref_mut-2.result.now boards c.deref_mut-2.ensures.value c.apply_all.auto.boards in
    let was : IsStage class_of (of_all code olds) scene c.deref.result.now (boards_of c.deref_mut-2.result.now) =
    subst (λ (l : List (Processing g.row.P.Denot)). IsStage class_of (of_all code l) scene c.deref.result.now (boards_of c.deref_mut-2.result.now)) (sym c.deref_mut.ensures.value)
    (subst (λ (l : List (ℕ × ℕ × Lane)). IsStage class_of (of_all code parts.processors.items) scene l (boards_of c.deref_mut-2.result.now)) (sym c.deref.ensures.value)
    (subst (λ (l : List (Vec Control Global)). IsStage class_of (of_all code parts.processors.items) scene parts.session.lanes.items (boards_of l)) (sym c.deref_mut-2.ensures.value) c.requires.ready.stage)) in
    let given = c.apply_all.ensures.applied scene was in
    let before : standing_of (of_all state olds) (boards_of c.deref_mut-2.result.now) (map answer_of work.replies.items) ≡ standing_of (of_all state parts.processors.items) (boards_of work.boards.items) (map answer_of work.replies.items) =
    ap (λ (l : List (Processing g.row.P.Denot)). standing_of (of_all state l) (boards_of c.deref_mut-2.result.now) (map answer_of work.replies.items)) c.deref_mut.ensures.value
    ∙ ap (λ (l : List (Vec Control Global)). standing_of (of_all state parts.processors.items) (boards_of l) (map answer_of work.replies.items)) c.deref_mut-2.ensures.value in
    let after : standing_of (of_all state news) (boards_of boards) answers ≡ standing_of (of_all state (with_items parts.processors news).items) (boards_of (with_items work.boards boards).items) answers =
    ap (λ (l : List (Processing g.row.P.Denot)). standing_of (of_all state l) (boards_of boards) answers) (sym processors_are)
    ∙ ap (λ (l : List (Vec Control Global)). standing_of (of_all state (with_items parts.processors news).items) (boards_of l) answers) (sym boards_are) in
    respelled scene work.pos entries _ _ _ _ (before ∙ sym (kept_standing (of_all state parts.processors.items) (boards_of work.boards.items) (map answer_of work.replies.items)))
    (after ∙ sym (kept_standing (of_all state (with_items parts.processors news).items) (boards_of (with_items work.boards boards).items) answers)) given

use Rattle.std.proofs.Common.{◌≡◌, ◌∙◌, ◌<◌, ◌≤◌, ◌*◌, ℕ, List, [], length, map, Vec, refl, sym, ap, subst, arith}
use Rattle.std.specs.Prelude.{slice_index_or}
use Rattle.std.specs.declared.alloc.Global.{Global}
use Rattle.std.specs.Vec.{with_items}
use Rattle.std.proofs.lemmas.List.{with_items_is}
use Rattle.std.proofs.Math.Nat.{mul-le-mul_left}
use Rattle.vh_component.specs.declared.setup.Phase.{Phase}
use Rattle.vh_component.specs.declared.states.Processing.{Processing}
use Rattle.vh_points.specs.Model.{most_points}
use Rattle.vh_plugin.specs.Class.{State}
use Rattle.vh_meaning.specs.Stands.{Touch}
use Rattle.vh_engine.specs.declared.control.Control.{Control}
use Rattle.vh_engine.specs.Blocks.{AreCurrent}
use Rattle.vh_engine.specs.Nodes.{AreBehind}
use Rattle.vh_engine.specs.Queued.{most_queues}
use Rattle.vh_engine.specs.Runs.{IsFlushReady}
use Rattle.vh_engine.specs.Staged.{of_all, boards_of, board_at, answer_of}
use Rattle.vh_engine.proofs.Flushed.{touches_over, standing_over, flush_finds, current_over, touches_stay, settled}
use Rattle.vh_engine.proofs.end.settle_all.Goals as goal

pub flush_nodes-requires-clause-ready : goal.flush_nodes-requires-clause-ready
flush_nodes-requires-clause-ready g c =
    let parts = c.args.parts.now in
    let work = c.args.work.now in
    let ready = c.requires.ready in
    let span = c.sample-span.result in
    let queues : 64 ≤ most_queues work.space.points = ready.space.queues in
    let most : 64 ≤ most_points work.space.points = let all = mul-le-mul_left 64 ready.most.0 in let points = ready.space.points in omega (arith, all, points) in
    let finds = flush_finds g.P.Processor.class_of g.P.Processor.code g.P.Processor.values g.P.Life.phase g.P.Life.last_setup parts work 0 ready g.met.P.Processor.lawful span (c.sample-span.ensures.lanes ∙ c.deref.ensures.value) c.sample-span.ensures.entries in (
      64,
      queues,
      most,
      subst (λ (l : List (Processing g.row.P.Denot)). (node k : ℕ) (p : Phase) → node < length l
          → IsFlushReady (g.P.Processor.class_of (slice_index_or (of_all g.P.Processor.code l) node k)) (slice_index_or (of_all g.P.Life.phase l) node p) (slice_index_or (of_all g.P.Processor.values l) node []) 64 span node
          (board_at (boards_of c.deref_mut-2.result.now) node)) (sym c.deref_mut.ensures.value)
          (subst (λ (l : List (Vec Control Global)). (node k : ℕ) (p : Phase) → node < length parts.processors.items
          → IsFlushReady (g.P.Processor.class_of (slice_index_or (of_all g.P.Processor.code parts.processors.items) node k)) (slice_index_or (of_all g.P.Life.phase parts.processors.items) node p)
          (slice_index_or (of_all g.P.Processor.values parts.processors.items) node []) 64 span node (board_at (boards_of l) node)) (sym c.deref_mut-2.ensures.value) finds),
    )

pub returns-clause-ready : goal.returns-clause-ready
returns-clause-ready g c =
    λ room ready.
    let parts = c.args.parts.now in
    let work = c.args.work.now in
    let span = c.sample-span.result in
    let processors = c.flush_nodes.new.processors in
    let boards = c.flush_nodes.new.boards in
    let are = c.deref_mut.ensures.value in
    let behind : (node : ℕ) → node < length parts.processors.items → AreBehind span node (board_at (boards_of work.boards.items) node) (board_at (boards_of boards) node) =
    subst (λ (l : List (Processing g.row.P.Denot)). (node : ℕ) → node < length l → AreBehind span node (board_at (boards_of work.boards.items) node) (board_at (boards_of boards) node)) are
    (subst (λ (l : List (Vec Control Global)). (node : ℕ) → node < length c.deref_mut.result.now → AreBehind span node (board_at (boards_of l) node) (board_at (boards_of boards) node)) c.deref_mut-2.ensures.value c.flush_nodes.ensures.behind) in
    settled g.P.Processor.class_of g.P.Processor.code g.P.Processor.values g.P.Life.phase g.P.Life.last_setup parts work room ready g.met.P.Processor.lawful span (c.sample-span.ensures.lanes ∙ c.deref.ensures.value) c.sample-span.ensures.entries
    c.sample-span.ensures.frames processors boards behind (c.flush_nodes.ensures.boards ∙ ap (λ (l : List (Vec Control Global)). length l) c.deref_mut-2.ensures.value) c.flush_nodes.ensures.sent
    (c.flush_nodes.ensures.codes ∙ ap (λ (l : List (Processing g.row.P.Denot)). of_all g.P.Processor.code l) are)
    (c.flush_nodes.ensures.phases ∙ ap (λ (l : List (Processing g.row.P.Denot)). of_all g.P.Life.phase l) are)
    (c.flush_nodes.ensures.setups ∙ ap (λ (l : List (Processing g.row.P.Denot)). of_all g.P.Life.last_setup l) are)
    (with_items parts.processors processors) (with_items work.boards boards) c.flush_nodes.new.points
    (with_items_is parts.processors processors (c.flush_nodes.auto.processors ∙ c.deref_mut.ensures.len)) (with_items_is work.boards boards (c.flush_nodes.auto.boards ∙ c.deref_mut-2.ensures.len))
    c.flush_nodes.ensures.queues c.flush_nodes.ensures.points

pub returns-clause-current : goal.returns-clause-current
returns-clause-current g c =
    let parts = c.args.parts.now in
    let work = c.args.work.now in
    let span = c.sample-span.result in
    let processors = c.flush_nodes.new.processors in
    let boards = c.flush_nodes.new.boards in
    let behind : (node : ℕ) → node < length parts.processors.items → AreBehind span node (board_at (boards_of work.boards.items) node) (board_at (boards_of boards) node) =
    subst (λ (l : List (Processing g.row.P.Denot)). (node : ℕ) → node < length l → AreBehind span node (board_at (boards_of work.boards.items) node) (board_at (boards_of boards) node)) c.deref_mut.ensures.value
    (subst (λ (l : List (Vec Control Global)). (node : ℕ) → node < length c.deref_mut.result.now → AreBehind span node (board_at (boards_of l) node) (board_at (boards_of boards) node)) c.deref_mut-2.ensures.value c.flush_nodes.ensures.behind) in
    let current = current_over g.P.Processor.class_of g.P.Processor.code g.P.Processor.values g.P.Life.phase g.P.Life.last_setup parts work 0 c.requires.ready g.met.P.Processor.lawful span (c.sample-span.ensures.lanes ∙ c.deref.ensures.value)
    c.sample-span.ensures.entries c.sample-span.ensures.frames processors boards behind (c.flush_nodes.ensures.boards ∙ ap (λ (l : List (Vec Control Global)). length l) c.deref_mut-2.ensures.value) in
    subst (λ (l : List (Vec Control Global)). AreCurrent parts.session.lanes.items work.pos (boards_of l)) (sym (with_items_is work.boards boards (c.flush_nodes.auto.boards ∙ c.deref_mut-2.ensures.len)))
    (subst (λ (s : ℕ). AreCurrent parts.session.lanes.items s (boards_of boards)) c.sample-span.ensures.from current)

pub returns-clause-standing : goal.returns-clause-standing
returns-clause-standing g c =
    let parts = c.args.parts.now in
    let work = c.args.work.now in
    let span = c.sample-span.result in
    let processors = c.flush_nodes.new.processors in
    let boards = c.flush_nodes.new.boards in
    let after : Vec (Processing g.row.P.Denot) Global = with_items parts.processors processors in
    let kept : Vec (Vec Control Global) Global = with_items work.boards boards in
    let are = c.deref_mut.ensures.value in
    let behind : (node : ℕ) → node < length parts.processors.items → AreBehind span node (board_at (boards_of work.boards.items) node) (board_at (boards_of boards) node) =
    subst (λ (l : List (Processing g.row.P.Denot)). (node : ℕ) → node < length l → AreBehind span node (board_at (boards_of work.boards.items) node) (board_at (boards_of boards) node)) are
    (subst (λ (l : List (Vec Control Global)). (node : ℕ) → node < length c.deref_mut.result.now → AreBehind span node (board_at (boards_of l) node) (board_at (boards_of boards) node)) c.deref_mut-2.ensures.value c.flush_nodes.ensures.behind) in
    let touches : touches_over boards ≡ touches_over work.boards.items =
    touches_stay g.P.Processor.class_of g.P.Processor.code g.P.Processor.values g.P.Life.phase g.P.Life.last_setup parts work 0 c.requires.ready g.met.P.Processor.lawful span (c.sample-span.ensures.lanes ∙ c.deref.ensures.value)
    c.sample-span.ensures.entries c.sample-span.ensures.frames processors boards behind (c.flush_nodes.ensures.boards ∙ ap (λ (l : List (Vec Control Global)). length l) c.deref_mut-2.ensures.value) in
    let states : of_all g.P.Processor.state after.items ≡ of_all g.P.Processor.state parts.processors.items =
    ap (λ (l : List (Processing g.row.P.Denot)). of_all g.P.Processor.state l) (with_items_is parts.processors processors (c.flush_nodes.auto.processors ∙ c.deref_mut.ensures.len))
    ∙ c.flush_nodes.ensures.states
    ∙ ap (λ (l : List (Processing g.row.P.Denot)). of_all g.P.Processor.state l) are in
    ap (λ (l : List State). standing_over l (touches_over kept.items) (map answer_of work.replies.items)) states
    ∙ ap (λ (l : List (Vec Control Global)). standing_over (of_all g.P.Processor.state parts.processors.items) (touches_over l) (map answer_of work.replies.items)) (with_items_is work.boards boards (c.flush_nodes.auto.boards ∙ c.deref_mut-2.ensures.len))
    ∙ ap (λ (l : List (List Touch)). standing_over (of_all g.P.Processor.state parts.processors.items) l (map answer_of work.replies.items)) touches

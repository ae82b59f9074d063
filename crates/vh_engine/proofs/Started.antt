-- An engine before its first sample.
use Rattle.std.proofs.Common.{◌≡◌, ◌∙◌, ℕ, zero, suc, ◌+◌, ◌-◌, ◌*◌, ◌^◌, ◌<◌, ◌≤◌, Bool, true, false, List, [], ◌∷◌, length, map, take, drop, Option, Some, None, Vec, ℤ, refl, sym, ap, subst, arith}
use Rattle.std.specs.Prelude.{All, nat_le, slice_index_or, sum_by, filter, vec_len, vec_capacity}
use Rattle.std.specs.List.{cons_option}
use Rattle.std.specs.declared.alloc.Global.{Global}
use Rattle.std.proofs.lemmas.Bool.{and_parts, leb-true}
use Rattle.std.proofs.lemmas.List.{length-map, get_or-map, get_or_default, length-drop}
use Rattle.std.proofs.lemmas.List.Elements.{All-cons, All-head, All-tail, All-weaker}
use Rattle.std.proofs.lemmas.List.Sums.{sum_by-cons, length-filter, count_by-le-length}
use Rattle.vh_component.specs.declared.setup.Phase.{Phase}
use Rattle.vh_component.specs.declared.setup.Setup.{Setup}
use Rattle.vh_component.specs.declared.states.Processing.{Processing}
use Rattle.vh_component.specs.States.{of_processing}
use Rattle.vh_counted.specs.Held.{value_of_opened}
use Rattle.vh_graph.specs.Order.{IsOrder}
use Rattle.vh_graph.specs.Laws.{OrderExactlyWithoutCycle}
use Rattle.vh_lane.specs.declared.lane.Lane.{Lane}
use Rattle.vh_num.specs.Frames.{Frame}
use Rattle.vh_params.specs.declared.param.ParamInfo.{ParamInfo}
use Rattle.vh_params.specs.Nodes.{Node, nodes_of, node_at, no_node}
use Rattle.vh_params.specs.declared.command.Reply.{Reply}
use Rattle.vh_plugin.specs.Class.{Class, State, Param, param_of, IsLawful, AreValues}
use Rattle.vh_session.specs.declared.session.Session.{Session}
use Rattle.vh_session.specs.declared.wire.End.{End}
use Rattle.vh_session.specs.declared.wire.End.TheVariants.{In, Out, Node as AtNode}
use Rattle.vh_session.specs.declared.wire.Wire.{Wire}
use Rattle.vh_session.specs.Content.{ends, node_wires, reaches, sources_into}
use Rattle.vh_session.specs.Entry.{LaneText}
use Rattle.vh_session.specs.Keeps.{Begins, IsWireBehind}
use Rattle.vh_session.specs.Names.{content_of}
use Rattle.vh_session.specs.Sound.{EndFits, WireFits}
use Rattle.vh_session.proofs.Behind.{behind_all}
use Rattle.vh_session.proofs.PartsNamed.{names_nodes}
use Rattle.vh_session.proofs.Wired.{all_begin}
use Rattle.vh_meaning.specs.Block.{IsFromScene, at_first, untouched, StandsAtFirst}
use Rattle.vh_meaning.specs.Scene.{Scene, node_count, class_at, params_at, lane_in, line_of as line_in, lane_of, firsts_at, by_node}
use Rattle.vh_meaning.specs.Stands.{Touch, StandsFor}
use Rattle.vh_engine.specs.declared.control.Control.{Control}
use Rattle.vh_engine.specs.declared.parts.Parts.{Parts}
use Rattle.vh_engine.specs.declared.seat.Seat.{Seat}
use Rattle.vh_engine.specs.declared.space.Space.{Space}
use Rattle.vh_engine.specs.declared.work.Work.{Work}
use Rattle.vh_engine.specs.Buses.{rows_of, IsSource, HaveRoom}
use Rattle.vh_engine.specs.Controls.{touch_of, line_of, IsControl}
use Rattle.vh_engine.specs.Engine.{kept_in, IsStill, IsNode, IsGraph, IsReadyFor, IsEngine, entries_left}
use Rattle.vh_engine.specs.Fresh.{IsFreshWork}
use Rattle.vh_engine.specs.Kept.{Kept, scene_in, standing_in, Stands}
use Rattle.vh_engine.specs.Nodes.{AreOf, sent_of}
use Rattle.vh_engine.specs.Parts.{scene_by, IsPlaced, AreParts, IsFresh}
use Rattle.vh_engine.specs.Plans.{AreSeats, IsFirst, IsFirstBoard, AreFirstBoards, begin_of}
use Rattle.vh_engine.specs.Runs.{AreAfter, IsSeat, IsSpacious}
use Rattle.vh_engine.specs.Staged.{of_all, boards_of, board_at, answer_of, IsBoard, AreBoards}
use Rattle.vh_engine.specs.Told.{IsStage}
use Rattle.vh_engine.proofs.Firsts.{HaveParams, firsts_of_node, within_by_node, untouched_board, sent_first, of_first}
use Rattle.vh_engine.proofs.Laned.{some_of, lane_placed, line_first, still_first}
use Rattle.vh_engine.proofs.Planned.{begin_most}

-- ---- a session's graph

-- the wires between nodes are between those that are there
fits_between : (count : ℕ) (from to : End) (rest : List (ℕ × ℕ)) → EndFits count from → EndFits count to → All (λ wire. (wire.0 < count) × (wire.1 < count)) rest
    → All (λ wire. (wire.0 < count) × (wire.1 < count)) (cons_option (ends from to) rest)
fits_between count In to rest begins fits all = all
fits_between count Out to rest begins fits all = all
fits_between count (AtNode from) In rest begins fits all = all
fits_between count (AtNode from) Out rest begins fits all = all
fits_between count (AtNode from) (AtNode to) rest begins fits all = All-cons (λ (wire : ℕ × ℕ). (wire.0 < count) × (wire.1 < count)) (from, to) rest (begins, fits) all

wires_within : (count : ℕ) (wires : List Wire) → All (λ wire. WireFits count wire) wires → All (λ wire. (wire.0 < count) × (wire.1 < count)) (node_wires wires)
wires_within count [] all = λ k d lt. absurd (omega (arith, lt))
wires_within count (wire ∷ wires) all =
    let here = All-head (λ (w : Wire). WireFits count w) wire wires all in
    fits_between count wire.from wire.to (node_wires wires) here.0 here.1 (wires_within count wires (All-tail (λ (w : Wire). WireFits count w) wire wires all))

from_there : (count : ℕ) (from : End) → Begins count from → (node : ℕ) → from ≡ AtNode node → node < count
from_there count from begins node is = subst (λ (end : End). Begins count end) is begins

sources_there : (count : ℕ) (end : End) → Begins count end → IsSource count end
sources_there count In begins = tt
sources_there count Out begins = absurd begins
sources_there count (AtNode node) begins = begins

-- no more wires reach a bus than there are
few_sources : (wires : List Wire) (to : End) (aux : Bool) → length (sources_into wires to aux) ≤ length wires
few_sources wires to aux =
    let mapped = length-map (filter (reaches to aux) wires) (λ (wire : Wire). wire.from) in
    let counted = length-filter (reaches to aux) wires in
    let few = count_by-le-length (reaches to aux) wires in
    omega (arith, mapped, counted, few)

-- ---- rooms, boards and values

have_room : (size : ℕ) (rows : List (Vec ℤ Global)) → All (λ row. length row.items ≡ size) rows → HaveRoom size (rows_of rows)
have_room size [] all node lt = absurd (omega (arith, lt))
have_room size (row ∷ rows) all zero lt = let here = All-head (λ (r : Vec ℤ Global). length r.items ≡ size) row rows all in omega (arith, here)
have_room size (row ∷ rows) all (suc node) lt = have_room size rows (All-tail (λ (r : Vec ℤ Global). length r.items ≡ size) row rows all) node (omega (arith, lt))

-- what holds of a board's parameters
at_board : (Holds : List Control → Type 0) (boards : List (Vec Control Global)) (node : ℕ) (d : List Control) → node < length boards → ((e : Vec Control Global) → Holds (slice_index_or boards node e).items)
    → Holds (slice_index_or (boards_of boards) node d)
at_board Holds [] node d lt has = absurd (omega (arith, lt))
at_board Holds (board ∷ boards) zero d lt has = has board
at_board Holds (board ∷ boards) (suc node) d lt has = at_board Holds boards node d (omega (arith, lt)) has

same_sums : {A B : Type 0} (f : A → ℕ) (g : B → ℕ) (xs : List A) (ys : List B) → length xs ≡ length ys → ((k : ℕ) (d : A) (e : B) → k < length xs → f (slice_index_or xs k d) ≡ g (slice_index_or ys k e)) → sum_by f xs ≡ sum_by g ys
same_sums f g [] [] long same = refl
same_sums f g [] (y ∷ ys) long same = absurd (omega (arith, long))
same_sums f g (x ∷ xs) [] long same = absurd (omega (arith, long))
same_sums f g (x ∷ xs) (y ∷ ys) long same =
    let here = same 0 x y (omega arith) in
    let rest = same_sums f g xs ys (omega (arith, long)) (λ k d e lt. same (suc k) d e (omega (arith, lt))) in
    sum_by-cons f x xs ∙ ap (λ (n : ℕ). n + sum_by f xs) here ∙ ap (λ (n : ℕ). g y + n) rest ∙ sym (sum_by-cons g y ys)

-- a list of values within bounds, as parameters have them
within_sent : (board : List Control) → All (λ value. value ≤ 2 ^ 24) (sent_of board) → (k : ℕ) (d : Control) → k < length board → (slice_index_or board k d).sent ≤ 2 ^ 24
within_sent board all k d lt =
    let long = length-map board (λ (control : Control). control.sent) in
    subst (λ (n : ℕ). n ≤ 2 ^ 24) (get_or-map (λ (control : Control). control.sent) board k d 0 lt) (all k 0 (omega (arith, lt, long)))

-- ---- a node

-- a node's parameters at their first values
module _ (session : Session) (firsts : List ℕ) (node : ℕ) (board : List Control) (lt : node < length (nodes_of session.nodes))
    (is : IsFirstBoard session.lanes.items node (node_at (nodes_of session.nodes) node).params (drop (begin_of (nodes_of session.nodes) node) firsts) board) where
  -- each of them stands for its parameter
  controls_first : (room : ℕ) → room < 2 ^ 128 → All (λ value. value ≤ 2 ^ 24) (sent_of board) → All (IsControl (length session.lanes.items) room) board
  controls_first room small within k d less =
      let params = (node_at (nodes_of session.nodes) node).params in
      let long = is.long in
      let inside : k < length params = omega (arith, less, long) in
      let here = is.each k 0 (some_of params k inside) d inside in
      let bound = within_sent board within k d less in
      let held = here.held in
      let sent = here.sent in
      let begun = here.begun in
      let ended = here.ended in
      record {
        steps = here.few_steps;
        lane = lane_placed session.lanes.items node (slice_index_or params k (some_of params k inside)).id (slice_index_or board k d).lane here.lane;
        held = omega (arith, held, sent, bound);
        sent = bound;
        begun = omega (arith, begun, small);
        ended = omega (arith, ended, small);
      }

  still_at_first : All (λ control. control.shown ≡ true → IsStill control) board
  still_at_first k d less shown =
      let params = (node_at (nodes_of session.nodes) node).params in
      let long = is.long in
      let inside : k < length params = omega (arith, less, long) in
      let p = some_of params k inside in
      let here = is.each k 0 p d inside in
      record {
        lane = still_first session node k p (slice_index_or board k d).lane lt inside (sym here.shown ∙ shown) here.lane;
        sent = here.sent ∙ sym here.held;
      }

  lines_first : (scene : Scene) → scene.lanes ≡ (content_of session).lanes → params_at scene node ≡ map param_of (node_at (nodes_of session.nodes) node).params
      → (k : ℕ) (d : Control) (e : Param) → k < length board → line_of session.lanes.items (slice_index_or board k d) ≡ lane_of scene node (slice_index_or (params_at scene node) k e)
  lines_first scene lanes_are params_are k d e less =
      let params = (node_at (nodes_of session.nodes) node).params in
      let long = is.long in
      let inside : k < length params = omega (arith, less, long) in
      let p = some_of params k inside in
      let here = is.each k 0 p d inside in
      let param_is : slice_index_or (params_at scene node) k e ≡ param_of (slice_index_or params k p) = ap (λ (l : List Param). slice_index_or l k e) params_are ∙ get_or-map param_of params k p e inside in
      line_first session node k p (slice_index_or board k d).lane lt inside here.lane
      ∙ ap (λ (lanes : List LaneText). line_in (slice_index_or params k p).steps (lane_in lanes node (slice_index_or params k p).id)) (sym lanes_are)
      ∙ ap (lane_of scene node) (sym param_is)

-- what touches are kept of a node
touches_kept : (boards : List (List Control)) (node : ℕ) → slice_index_or (map (λ board. map touch_of board) boards) node [] ≡ map touch_of (board_at boards node)
touches_kept [] node = refl
touches_kept (board ∷ boards) zero = refl
touches_kept (board ∷ boards) (suc node) = touches_kept boards node

-- there is room for the gestures of all entries to come
small_room : (frames at : ℕ) (flushed : Bool) → frames ≤ 16777216 → entries_left frames at flushed < 2 ^ 128
small_room frames at true few = omega arith
small_room frames at false few = omega (arith, few)

-- ---- an engine

-- what is meant of a processor
meant_at : {P A : Type 0} (meant : P → A) (processors : List (Processing P)) → length (of_all meant processors) ≡ length processors
meant_at meant processors = length-map processors (λ processor. meant (value_of_opened (of_processing processor)))

valued_at : {P : Type 0} (class_of : ℕ → Class) (code : P → ℕ) (values : P → List ℕ) → ((x : P) → AreValues (class_of (code x)).params (values x)) → (processors : List (Processing P)) (node c : ℕ) → node < length processors
    → AreValues (class_of (slice_index_or (of_all code processors) node c)).params (slice_index_or (of_all values processors) node [])
valued_at class_of code values valued [] node c lt = absurd (omega (arith, lt))
valued_at class_of code values valued (processor ∷ processors) zero c lt = valued (value_of_opened (of_processing processor))
valued_at class_of code values valued (processor ∷ processors) (suc node) c lt = valued_at class_of code values valued processors node c (omega (arith, lt))

-- the session, the processors and the first values, for blocks of so many frames
module _ {P : Type 0} (class_of : ℕ → Class) (code : P → ℕ) (state : P → State) (values : P → List ℕ) (phase : P → Phase) (setup : P → Setup) (parts : Parts P) (max : ℕ)
    (are : AreParts class_of code state values phase setup parts max) where
  -- a phase and a setup, where there is a node
  placed_at : (node c : ℕ) (p : Phase) (s : Setup) → node < length (nodes_of parts.session.nodes)
      → IsPlaced (class_of (slice_index_or (of_all code parts.processors.items) node c)) (slice_index_or (of_all state parts.processors.items) node []) (slice_index_or (of_all values parts.processors.items) node [])
      (slice_index_or (of_all phase parts.processors.items) node p) (slice_index_or (of_all setup parts.processors.items) node s)
      (map param_of (node_at (nodes_of parts.session.nodes) node).params) (firsts_at (scene_by class_of code parts) node)
      (sources_into parts.session.wires.items (AtNode node) true) parts.session.channels max
  placed_at node c p s lt = let long = are.long in are.each node c p s (omega (arith, lt, long))

  params_of_node : (node c : ℕ) → node < length (nodes_of parts.session.nodes) → (class_of (slice_index_or (of_all code parts.processors.items) node c)).params ≡ map param_of (node_at (nodes_of parts.session.nodes) node).params
  params_of_node node c lt =
      let long = are.long in
      let phases = meant_at phase parts.processors.items in
      let setups = meant_at setup parts.processors.items in
      (placed_at node c (some_of (of_all phase parts.processors.items) node (omega (arith, lt, long, phases))) (some_of (of_all setup parts.processors.items) node (omega (arith, lt, long, setups))) lt).params

  have_params : HaveParams class_of (of_all code parts.processors.items) (nodes_of parts.session.nodes)
  have_params k lt =
      let long = are.long in
      let codes = meant_at code parts.processors.items in
      ap length (params_of_node k 0 (omega (arith, lt, long, codes))) ∙ length-map (node_at (nodes_of parts.session.nodes) k).params param_of

  module _ (work : Work) (tells : ℕ) (fresh : IsFreshWork parts.session parts.first.items max tells work) where
    first_board : (node : ℕ) → node < length (nodes_of parts.session.nodes)
        → IsFirstBoard parts.session.lanes.items node (node_at (nodes_of parts.session.nodes) node).params (drop (begin_of (nodes_of parts.session.nodes) node) parts.first.items) (board_at (boards_of work.boards.items) node)
    first_board node lt =
        let nodes = nodes_of parts.session.nodes in
        let long = fresh.boards.long in
        at_board (λ (board : List Control). IsFirstBoard parts.session.lanes.items node (node_at nodes node).params (drop (begin_of nodes node) parts.first.items) board) work.boards.items node [] (omega (arith, lt, long))
        (λ e. fresh.boards.each node no_node e lt)

    enough : (node : ℕ) → node < length (nodes_of parts.session.nodes) → length (node_at (nodes_of parts.session.nodes) node).params ≤ length (drop (begin_of (nodes_of parts.session.nodes) node) parts.first.items)
    enough node lt =
        let nodes = nodes_of parts.session.nodes in
        let flat = are.flat in
        let most = begin_most nodes node no_node parts.first.items lt (omega (arith, flat)) in
        let dropped = length-drop (begin_of nodes node) parts.first.items in
        omega (arith, most, dropped)

    -- a processor has what its parameters were sent
    values_sent : (node : ℕ) → node < length (nodes_of parts.session.nodes) → slice_index_or (of_all values parts.processors.items) node [] ≡ sent_of (board_at (boards_of work.boards.items) node)
    values_sent node lt =
        let nodes = nodes_of parts.session.nodes in
        let long = are.long in
        let codes = meant_at code parts.processors.items in
        let phases = meant_at phase parts.processors.items in
        let setups = meant_at setup parts.processors.items in
        let placed = placed_at node 0 (some_of (of_all phase parts.processors.items) node (omega (arith, lt, long, phases))) (some_of (of_all setup parts.processors.items) node (omega (arith, lt, long, setups))) lt in
        placed.first
        ∙ firsts_of_node class_of (of_all code parts.processors.items) nodes parts.first.items node have_params (codes ∙ long) (omega (arith, lt, long, codes))
        ∙ sym (sent_first parts.session.lanes.items node (node_at nodes node).params (drop (begin_of nodes node) parts.first.items) (board_at (boards_of work.boards.items) node) (first_board node lt) (enough node lt))

    seat_first : (node c : ℕ) (d : Seat) → node < length (nodes_of parts.session.nodes) → IsSeat (class_of (slice_index_or (of_all code parts.processors.items) node c)) (slice_index_or work.seats.items node d)
    seat_first node c d lt =
        let wires = parts.session.wires.items in
        let long = are.long in
        let seats = fresh.seats.long in
        let few = parts.session.keeps.few_wires in
        let phases = meant_at phase parts.processors.items in
        let setups = meant_at setup parts.processors.items in
        let placed = placed_at node c (some_of (of_all phase parts.processors.items) node (omega (arith, lt, long, phases))) (some_of (of_all setup parts.processors.items) node (omega (arith, lt, long, setups))) lt in
        let main = ap length (fresh.seats.main node d (omega (arith, lt, seats))) in
        let aux = ap length (fresh.seats.aux node d (omega (arith, lt, seats))) in
        let mains = few_sources wires (AtNode node) false in
        let auxes = few_sources wires (AtNode node) true in
        record {
          main = omega (arith, main, mains, few);
          aux = omega (arith, aux, auxes, few);
          has_aux = λ some. placed.has_aux (omega (arith, some, aux));
        }

    node_first : ((code : ℕ) → IsLawful (class_of code)) → ((x : P) → AreValues (class_of (code x)).params (values x)) → (room : ℕ) → room < 2 ^ 128
        → (node c : ℕ) (p : Phase) (s : Setup) (d : Seat) → node < length (nodes_of parts.session.nodes)
        → IsNode (class_of (slice_index_or (of_all code parts.processors.items) node c)) (slice_index_or (of_all phase parts.processors.items) node p) (slice_index_or (of_all setup parts.processors.items) node s)
        (slice_index_or (of_all values parts.processors.items) node []) parts.session.channels max 64 (length parts.session.lanes.items) room
        (slice_index_or work.seats.items node d) (board_at (boards_of work.boards.items) node)
    node_first lawful valued room small node c p s d lt =
        let nodes = nodes_of parts.session.nodes in
        let params = (node_at nodes node).params in
        let long = are.long in
        let placed = placed_at node c p s lt in
        let board = board_at (boards_of work.boards.items) node in
        let first = first_board node lt in
        let class = class_of (slice_index_or (of_all code parts.processors.items) node c) in
        let has = valued_at class_of code values valued parts.processors.items node c (omega (arith, lt, long)) in
        let few = (lawful (slice_index_or (of_all code parts.processors.items) node c)).few in
        let many = ap length placed.params ∙ length-map params param_of in
        let wide = first.long in
        record {
          phase_is = placed.phase_is;
          channels_are = placed.channels_are;
          most = placed.most;
          of = subst (λ (ps : List Param). AreOf ps board) (sym placed.params) (of_first parts.session.lanes.items node params (drop (begin_of nodes node) parts.first.items) board first (enough node lt));
          sent = values_sent node lt;
          few = omega (arith, few, many, wide);
          each = controls_first parts.session parts.first.items node board lt first room small (subst (λ (l : List ℕ). All (λ value. value ≤ 2 ^ 24) l) (values_sent node lt) has.within);
          still = still_at_first parts.session parts.first.items node board lt first;
          seat_is = seat_first node c d lt;
        }

    boards_first : AreBoards (scene_by class_of code parts) parts.session.lanes.items (boards_of work.boards.items)
    boards_first =
        let nodes = nodes_of parts.session.nodes in
        let long = are.long in
        let codes = meant_at code parts.processors.items in
        let boards = fresh.boards.long in
        let mapped = length-map work.boards.items (λ (board : Vec Control Global). board.items) in
        record {
          long = omega (arith, long, codes, boards, mapped);
          each = λ node within.
              let lt : node < length nodes = omega (arith, within, long, codes) in
              let board = board_at (boards_of work.boards.items) node in
              let params = (node_at nodes node).params in
              record {
                of = subst (λ (ps : List Param). AreOf ps board) (sym (params_of_node node 0 lt)) (of_first parts.session.lanes.items node params (drop (begin_of nodes node) parts.first.items) board (first_board node lt) (enough node lt));
                lines = lines_first parts.session parts.first.items node board lt (first_board node lt) (scene_by class_of code parts) refl (params_of_node node 0 lt);
              };
        }

    -- so many values are seen
    seen_first : length work.values.items ≡ sum_by (λ board. length board) (boards_of work.boards.items)
    seen_first =
        let nodes = nodes_of parts.session.nodes in
        let boards = fresh.boards.long in
        let mapped = length-map work.boards.items (λ (board : Vec Control Global). board.items) in
        ap length fresh.values ∙ are.flat
        ∙ sym (same_sums (λ (board : List Control). length board) (λ (node : Node). length node.params) (boards_of work.boards.items) nodes (mapped ∙ boards) (λ k d e lt.
        at_board (λ (board : List Control). length board ≡ length (slice_index_or nodes k e).params) work.boards.items k d (omega (arith, lt, mapped)) (λ v. (fresh.boards.each k e v (omega (arith, lt, mapped, boards))).long)))

    -- and none of them is above 1.0
    within_first : ((x : P) → AreValues (class_of (code x)).params (values x)) → All (λ value. value ≤ 2 ^ 24) work.values.items
    within_first valued =
        let nodes = nodes_of parts.session.nodes in
        let long = are.long in
        let codes = meant_at code parts.processors.items in
        let phases = meant_at phase parts.processors.items in
        let setups = meant_at setup parts.processors.items in
        subst (λ (l : List ℕ). All (λ value. value ≤ 2 ^ 24) l) (sym fresh.values)
        (within_by_node class_of (of_all code parts.processors.items) nodes parts.first.items have_params (codes ∙ long) are.flat (λ node within.
        let lt : node < length nodes = omega (arith, within, long, codes) in
        let placed = placed_at node 0 (some_of (of_all phase parts.processors.items) node (omega (arith, lt, long, phases))) (some_of (of_all setup parts.processors.items) node (omega (arith, lt, long, setups))) lt in
        subst (λ (l : List ℕ). All (λ value. value ≤ 2 ^ 24) l) placed.first (valued_at class_of code values valued parts.processors.items node 0 (omega (arith, lt, long))).within))

    graph_first : OrderExactlyWithoutCycle → IsGraph (scene_by class_of code parts)
    graph_first law =
        let wires = parts.session.wires.items in
        let count = length (nodes_of parts.session.nodes) in
        let counted : count ≡ length (of_all code parts.processors.items) = sym (meant_at code parts.processors.items ∙ are.long) in
        let from = behind_all (IsWireBehind count) (λ wire. Begins count wire.from) [] wires (λ before wire stands. stands.from) parts.session.keeps.wires in
        record {
          order = subst (λ (n : ℕ). (order : List ℕ) × IsOrder n (node_wires wires) order) counted ((law count (node_wires wires) (wires_within count wires (names_nodes parts.session).wires)).1 parts.session.keeps.free);
          from = subst (λ (n : ℕ). All (λ (wire : Wire). (node : ℕ) → wire.from ≡ AtNode node → node < n) wires) counted
              (All-weaker (λ (wire : Wire). Begins count wire.from) (λ (wire : Wire). (node : ℕ) → wire.from ≡ AtNode node → node < count) (λ wire begins. from_there count wire.from begins) wires from);
        }

    -- What an engine keeps to holds before its first sample.
    pub engine_at_first : OrderExactlyWithoutCycle → ((code : ℕ) → IsLawful (class_of code)) → ((x : P) → AreValues (class_of (code x)).params (values x)) → 1 ≤ max → max ≤ 8192
        → IsEngine class_of code values phase setup parts work
    engine_at_first law lawful valued some most =
        let session = parts.session in
        let wires = session.wires.items in
        let nodes = nodes_of session.nodes in
        let long = are.long in
        let max_is = fresh.max_is in
        let pos = fresh.pos in
        let seats = fresh.seats.long in
        let rows = fresh.rows.0 in
        let given = fresh.given in
        let replies = fresh.replies.1 in
        let few = session.keeps.nodes.0 in
        let frames : session.length ≤ 16777216 = leb-true session.length 16777216 (and_parts (nat_le 0 session.length) (nat_le session.length 16777216) session.keeps.frames).1 in
        let channels : 1 ≤ session.channels = leb-true 1 session.channels (and_parts (nat_le 1 session.channels) (nat_le session.channels 2) session.keeps.channels).0 in
        let ends = ap length fresh.ends in
        let sources = few_sources wires Out false in
        let few_wires = session.keeps.few_wires in
        let room = entries_left session.length work.pos work.flushed in
        record {
          stage = record { classes = refl; codes_are = refl; boards_are = boards_first };
          graph = graph_first law;
          few = omega (arith, few, long);
          channels = channels;
          most = (omega (arith, some, max_is), omega (arith, most, max_is));
          within = omega (arith, pos);
          seats = omega (arith, seats, long);
          seat = λ node d lt. (fresh.seats.main node d lt, fresh.seats.aux node d lt);
          order = subst (λ (n : ℕ). AreAfter n work.seats.items [] work.order.items) (sym seats) fresh.order;
          rows = (omega (arith, rows, long), have_room (session.channels * work.max) work.rows.items (subst (λ (n : ℕ). All (λ row. length row.items ≡ session.channels * n) work.rows.items) (sym max_is) fresh.rows.1));
          ends = fresh.ends;
          few_ends = omega (arith, ends, sources, few_wires);
          sources = subst (λ (n : ℕ). All (IsSource n) work.ends.items) (sym long)
              (subst (λ (l : List End). All (IsSource (length nodes)) l) (sym fresh.ends)
              (All-weaker (Begins (length nodes)) (IsSource (length nodes)) (sources_there (length nodes)) (sources_into wires Out false) (all_begin session Out false)));
          space = subst (λ (n : ℕ). IsSpacious work.space (session.channels * n) 64 n) (sym max_is) fresh.space;
          given = omega (arith, given);
          shown = seen_first;
          within_one = within_first valued;
          replies = omega (arith, replies);
          nodes = λ node c p s d lt.
              subst (λ (n : ℕ). IsNode (class_of (slice_index_or (of_all code parts.processors.items) node c)) (slice_index_or (of_all phase parts.processors.items) node p) (slice_index_or (of_all setup parts.processors.items) node s)
              (slice_index_or (of_all values parts.processors.items) node []) session.channels n 64 (length session.lanes.items) room (slice_index_or work.seats.items node d) (board_at (boards_of work.boards.items) node)) (sym max_is)
              (node_first lawful valued room (small_room session.length work.pos work.flushed frames) node c p s d (omega (arith, lt, long)));
        }

    pub fresh_first : (calls : P → ℕ) → IsFresh class_of code calls parts max tells (kept_in code state calls parts work)
    fresh_first calls =
        let replies = fresh.replies.1 in
        record {
          session = refl;
          codes = refl;
          calls_are = refl;
          holders = refl;
          firsts = refl;
          values = fresh.values;
          at = fresh.pos;
          max_is = fresh.max_is;
          room = omega (arith, replies);
          flushed = fresh.flushed;
        }

    -- It stands for every input, and no entry.
    pub stands_first : StandsAtFirst → (calls : P → ℕ) (input : List Frame) → Stands class_of (kept_in code state calls parts work) input []
    stands_first law calls input =
        let scene = scene_by class_of code parts in
        let nodes = nodes_of parts.session.nodes in
        let long = are.long in
        let codes = meant_at code parts.processors.items in
        let at = law scene input in
        let phases = meant_at phase parts.processors.items in
        let setups = meant_at setup parts.processors.items in
        let stands : StandsFor scene (standing_in (kept_in code state calls parts work)) 0 input [] = record {
          states = λ node within.
              let lt : node < length nodes = omega (arith, within, long, codes) in
              let placed = placed_at node 0 (some_of (of_all phase parts.processors.items) node (omega (arith, lt, long, phases))) (some_of (of_all setup parts.processors.items) node (omega (arith, lt, long, setups))) lt in
              placed.starts ∙ at.states node within;
          touches = λ node within.
              let lt : node < length nodes = omega (arith, within, long, codes) in
              let params = (node_at nodes node).params in
              let board = board_at (boards_of work.boards.items) node in
              let firsts = drop (begin_of nodes node) parts.first.items in
              touches_kept (boards_of work.boards.items) node
              ∙ untouched_board parts.session.lanes.items node params firsts board (first_board node lt) (enough node lt)
              ∙ ap (λ (ps : List Param). untouched ps (take (length params) firsts)) (sym (params_of_node node 0 lt))
              ∙ ap (untouched (params_at scene node)) (sym (firsts_of_node class_of (of_all code parts.processors.items) nodes parts.first.items node have_params (codes ∙ long) within))
              ∙ at.touches node within;
          answers = ap (λ (replies : List Reply). map answer_of replies) fresh.replies.0 ∙ at.answers;
          before = at.before;
        } in
        subst (λ (s : ℕ). StandsFor scene (standing_in (kept_in code state calls parts work)) s input []) (sym fresh.pos) stands

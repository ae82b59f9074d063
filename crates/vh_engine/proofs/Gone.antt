-- A block that all nodes ran over.
use Rattle.std.proofs.Common.{◌≡◌, ◌∙◌, ℕ, suc, ◌+◌, ◌*◌, ◌<◌, ◌≤◌, List, [], ◌∷◌, length, map, get_or, ℤ, Vec, refl, sym, ap, subst, arith}
use Rattle.std.specs.Prelude.{All, sum_by}
use Rattle.std.specs.declared.alloc.Global.{Global}
use Rattle.std.proofs.lemmas.List.{length-map, get_or-map, get_or_default}
use Rattle.std.proofs.lemmas.List.Sums.{sum_by-cons}
use Rattle.vh_component.specs.declared.setup.Phase.{Phase}
use Rattle.vh_component.specs.declared.setup.Setup.{Setup}
use Rattle.vh_component.specs.declared.states.Processing.{Processing}
use Rattle.vh_component.specs.States.{of_processing}
use Rattle.vh_counted.specs.Held.{value_of_opened}
use Rattle.vh_journal.specs.declared.entry.Entry.{Entry}
use Rattle.vh_lane.specs.declared.lane.Lane.{Lane}
use Rattle.vh_num.specs.Frames.{Frame, frame_at}
use Rattle.vh_plugin.specs.Class.{Class, State, IsLawful}
use Rattle.vh_session.specs.Names.{content_of}
use Rattle.vh_meaning.specs.Edits.{up_to}
use Rattle.vh_meaning.specs.Scene.{Scene, scene_of, node_count, class_at, params_at}
use Rattle.vh_meaning.specs.Stands.{Touch}
use Rattle.vh_meaning.specs.Steps.{touches_through, values_now}
use Rattle.vh_meaning.specs.World.{input_at}
use Rattle.vh_meaning.specs.Block.{values_within}
use Rattle.vh_engine.specs.declared.control.Control.{Control}
use Rattle.vh_engine.specs.declared.parts.Parts.{Parts}
use Rattle.vh_engine.specs.declared.seat.Seat.{Seat}
use Rattle.vh_engine.specs.declared.space.Space.{Space}
use Rattle.vh_engine.specs.declared.span.Span.{Span}
use Rattle.vh_engine.specs.declared.work.Work.{Work}
use Rattle.vh_engine.specs.Blocks.{IsBlockOver, HasGoneOver, IsCurrent, AreCurrent}
use Rattle.vh_engine.specs.Buses.{rows_of, row_at, frames_at, IsSource, HaveRoom}
use Rattle.vh_engine.specs.Controls.{touch_of, value_through}
use Rattle.vh_engine.specs.Engine.{kept_in, IsNode, IsGraph, IsReadyFor}
use Rattle.vh_engine.specs.Kept.{IsFor, AreInput, standing_in}
use Rattle.vh_engine.specs.Nodes.{values_in, sent_of, AreBehind, IsRun}
use Rattle.vh_engine.specs.Parts.{scene_by}
use Rattle.vh_engine.specs.Runs.{HasRun, IsSpacious, IsNodeReady}
use Rattle.vh_engine.specs.Staged.{of_all, boards_of, board_at, IsBoard, AreBoards}
use Rattle.vh_engine.proofs.Called.{one_of}
use Rattle.vh_engine.proofs.Left.{spacious_less, node_ready, node_left, board_left}
use Rattle.vh_engine.proofs.Taking.{values_through_board, touches_behind, all_current}
use Rattle.vh_engine.proofs.Traces.{streamed, states_over, run_over, trace_of_runs, state_after}

-- boards that are as long are as long together
sums_same : (olds news : List (List Control)) → length news ≡ length olds → ((k : ℕ) → k < length olds → length (board_at news k) ≡ length (board_at olds k)) → sum_by (λ board. length board) news ≡ sum_by (λ board. length board) olds
sums_same [] [] long each = refl
sums_same [] (board ∷ news) long each = absurd (omega (arith, long))
sums_same (board ∷ olds) [] long each = absurd (omega (arith, long))
sums_same (board ∷ olds) (other ∷ news) long each =
    let size = λ (l : List Control). length l in
    sum_by-cons size other news
    ∙ ap (λ (n : ℕ). n + sum_by size news) (each 0 (omega arith))
    ∙ ap (λ (n : ℕ). length board + n) (sums_same olds news (omega (arith, long)) (λ k lt. each (suc k) (omega (arith, lt))))
    ∙ sym (sum_by-cons size board olds)

-- room for a block
pub spacious : (space : Space) (channels params most frames size : ℕ) → frames ≤ most → size ≡ channels * frames → IsSpacious space (channels * most) params most → IsSpacious space size params frames
spacious space channels params most frames size le sized is = subst (λ (m : ℕ). IsSpacious space m params frames) (sym sized) (spacious_less space channels params most frames le is)

-- what the run of all nodes comes to
module _ {P : Type 0} (class_of : ℕ → Class) (code : P → ℕ) (state : P → State) (values : P → List ℕ) (phase : P → Phase) (setup : P → Setup) (span : Span) (ins : List ℤ) where
  pub record HaveAllRun (seats : List Seat) (olds procs : List (Processing P)) (befores boards : List (Vec Control Global)) (firsts rows : List (Vec ℤ Global)) (first space : Space) : Type 0 where
    pub run : (channels node c : ℕ) (d : Seat) → length ins ≡ channels * span.frames → node < length seats
        → HasRun (class_of (get_or (of_all code olds) node c)) channels span ins (rows_of rows) (get_or seats node d) node
        (board_at (boards_of befores) node) (board_at (boards_of boards) node) (get_or (of_all state olds) node []) (get_or (of_all state procs) node []) (row_at (rows_of rows) node)
    pub sent : of_all values procs ≡ map sent_of (boards_of boards)
    pub codes : of_all code procs ≡ of_all code olds
    pub phases : of_all phase procs ≡ of_all phase olds
    pub setups : of_all setup procs ≡ of_all setup olds
    pub boards_long : length boards ≡ length befores
    pub rows_long : length rows ≡ length firsts
    pub room : (size params frames : ℕ) → HaveRoom size (rows_of firsts) → IsSpacious first size params frames → HaveRoom size (rows_of rows) × IsSpacious space size params frames

  -- the same of lists that are these
  pub all_run_of : (seats places : List Seat) (olds starts procs ends : List (Processing P)) (befores lefts boards news : List (Vec Control Global)) (firsts olders rows newer : List (Vec ℤ Global)) (first space : Space)
      → seats ≡ places → olds ≡ starts → procs ≡ ends → befores ≡ lefts → boards ≡ news → firsts ≡ olders → rows ≡ newer
      → HaveAllRun seats olds procs befores boards firsts rows first space → HaveAllRun places starts ends lefts news olders newer first space
  all_run_of seats places olds starts procs ends befores lefts boards news firsts olders rows newer first space same_seats same_olds same_procs same_befores same_boards same_firsts same_rows ran =
      subst (λ (l : List Seat). HaveAllRun l starts ends lefts news olders newer first space) same_seats
      (subst (λ (l : List (Processing P)). HaveAllRun seats l ends lefts news olders newer first space) same_olds
      (subst (λ (l : List (Processing P)). HaveAllRun seats olds l lefts news olders newer first space) same_procs
      (subst (λ (l : List (Vec Control Global)). HaveAllRun seats olds procs l news olders newer first space) same_befores
      (subst (λ (l : List (Vec Control Global)). HaveAllRun seats olds procs befores l olders newer first space) same_boards
      (subst (λ (l : List (Vec ℤ Global)). HaveAllRun seats olds procs befores boards l newer first space) same_firsts
      (subst (λ (l : List (Vec ℤ Global)). HaveAllRun seats olds procs befores boards firsts l first space) same_rows ran))))))

module _ {P : Type 0} (class_of : ℕ → Class) (code : P → ℕ) (state : P → State) (values : P → List ℕ) (calls : P → ℕ) (phase : P → Phase) (setup : P → Setup) (lawful : (c : ℕ) → IsLawful (class_of c))
    (parts : Parts P) (work : Work) (entries : List Entry) (span : Span) where
  -- a block of the engine's next samples
  pub record IsSpanOf (n : ℕ) : Type 0 where
    pub lanes : span.lanes.now ≡ parts.session.lanes.items
    pub entries_are : span.entries.now ≡ entries
    pub from : span.from ≡ work.pos
    pub frames : span.frames ≡ n
    pub most : n ≤ work.max
    pub for : All (λ entry. IsFor (scene_by class_of code parts) entry.command) entries

  module _ (n : ℕ) (is : IsSpanOf n) where
    for_span : All (λ entry. IsFor (scene_by class_of code parts) entry.command) span.entries.now
    for_span = subst (λ (l : List Entry). All (λ entry. IsFor (scene_by class_of code parts) entry.command) l) (sym is.entries_are) is.for

    codes_long : length (of_all code parts.processors.items) ≡ length parts.processors.items
    codes_long = length-map parts.processors.items (λ (p : Processing P). code (value_of_opened (of_processing p)))

    node_in : (room : ℕ) → IsReadyFor class_of code values phase setup parts work (length entries + room) → (node c : ℕ) (p : Phase) (s : Setup) (d : Seat) → node < length parts.processors.items
        → IsNode (class_of (get_or (of_all code parts.processors.items) node c)) (get_or (of_all phase parts.processors.items) node p) (get_or (of_all setup parts.processors.items) node s) (get_or (of_all values parts.processors.items) node [])
        parts.session.channels work.max 64 (length span.lanes.now) (length span.entries.now + room) (get_or work.seats.items node d) (board_at (boards_of work.boards.items) node)
    node_in room ready node c p s d within =
        subst (λ (l : List (ℕ × ℕ × Lane)). IsNode (class_of (get_or (of_all code parts.processors.items) node c)) (get_or (of_all phase parts.processors.items) node p) (get_or (of_all setup parts.processors.items) node s)
        (get_or (of_all values parts.processors.items) node []) parts.session.channels work.max 64 (length l) (length span.entries.now + room) (get_or work.seats.items node d) (board_at (boards_of work.boards.items) node)) (sym is.lanes)
        (subst (λ (l : List Entry). IsNode (class_of (get_or (of_all code parts.processors.items) node c)) (get_or (of_all phase parts.processors.items) node p) (get_or (of_all setup parts.processors.items) node s)
        (get_or (of_all values parts.processors.items) node []) parts.session.channels work.max 64 (length parts.session.lanes.items) (length l + room) (get_or work.seats.items node d) (board_at (boards_of work.boards.items) node)) (sym is.entries_are)
        (ready.nodes node c p s d within))

    same_params : (node c : ℕ) → node < length parts.processors.items → params_at (scene_by class_of code parts) node ≡ (class_of (get_or (of_all code parts.processors.items) node c)).params
    same_params node c within = ap (λ (k : ℕ). (class_of k).params) (get_or_default (of_all code parts.processors.items) node 0 c (omega (arith, within, codes_long)))

    pub nodes_ready : IsReadyFor class_of code values phase setup parts work (length entries) → (node c : ℕ) (p : Phase) (s : Setup) (d : Seat) → node < length work.seats.items
        → IsNodeReady (class_of (get_or (of_all code parts.processors.items) node c)) (get_or (of_all phase parts.processors.items) node p) (get_or (of_all setup parts.processors.items) node s) (get_or (of_all values parts.processors.items) node [])
        parts.session.channels 64 span node (get_or work.seats.items node d) (board_at (boards_of work.boards.items) node)
    nodes_ready ready node c p s d lt =
        let none : length entries ≡ length entries + 0 = omega arith in
        let seats = ready.seats in
        let within : node < length parts.processors.items = omega (arith, lt, seats) in
        let frames = is.frames in
        let most = is.most in
        node_ready _ _ _ _ parts.session.channels work.max 64 span node 0 _ _ (node_in 0 (subst (λ (m : ℕ). IsReadyFor class_of code values phase setup parts work m) none ready) node c p s d within)
        (lawful (get_or (of_all code parts.processors.items) node c)) (scene_by class_of code parts) (same_params node c within) for_span (omega (arith, frames, most))

    -- where the lists are these
    pub nodes_in_words : IsReadyFor class_of code values phase setup parts work (length entries) → (seats : List Seat) (procs : List (Processing P)) (boards : List (Vec Control Global))
        → seats ≡ work.seats.items → procs ≡ parts.processors.items → boards ≡ work.boards.items
        → (node c : ℕ) (p : Phase) (s : Setup) (d : Seat) → node < length seats
        → IsNodeReady (class_of (get_or (of_all code procs) node c)) (get_or (of_all phase procs) node p) (get_or (of_all setup procs) node s) (get_or (of_all values procs) node [])
        parts.session.channels 64 span node (get_or seats node d) (board_at (boards_of boards) node)
    nodes_in_words ready seats procs boards same_seats same_procs same_boards node c p s d lt =
        let within : node < length work.seats.items = subst (λ (l : List Seat). node < length l) same_seats lt in
        subst (λ (l : List Seat). IsNodeReady (class_of (get_or (of_all code procs) node c)) (get_or (of_all phase procs) node p) (get_or (of_all setup procs) node s) (get_or (of_all values procs) node [])
        parts.session.channels 64 span node (get_or l node d) (board_at (boards_of boards) node)) (sym same_seats)
        (subst (λ (l : List (Processing P)). IsNodeReady (class_of (get_or (of_all code l) node c)) (get_or (of_all phase l) node p) (get_or (of_all setup l) node s) (get_or (of_all values l) node [])
        parts.session.channels 64 span node (get_or work.seats.items node d) (board_at (boards_of boards) node)) (sym same_procs)
        (subst (λ (l : List (Vec Control Global)). IsNodeReady (class_of (get_or (of_all code parts.processors.items) node c)) (get_or (of_all phase parts.processors.items) node p) (get_or (of_all setup parts.processors.items) node s)
        (get_or (of_all values parts.processors.items) node []) parts.session.channels 64 span node (get_or work.seats.items node d) (board_at (boards_of l) node)) (sym same_boards) (nodes_ready ready node c p s d within)))

  module _ (ins : List ℤ) (procs : Vec (Processing P) Global) (boards : Vec (Vec Control Global) Global) (rows : Vec (Vec ℤ Global) Global) (space : Space)
      (ran : HaveAllRun class_of code state values phase setup span ins work.seats.items parts.processors.items procs.items work.boards.items boards.items work.rows.items rows.items work.space space)
      (n : ℕ) (is : IsSpanOf n) (sized : length ins ≡ parts.session.channels * n) where
    abbrev after : Parts P
    after = record parts { processors = procs }

    abbrev left : Work
    left = record work { boards = boards; rows = rows; space = space }

    procs_long : length procs.items ≡ length parts.processors.items
    procs_long =
        sym (length-map procs.items (λ (p : Processing P). code (value_of_opened (of_processing p))))
        ∙ ap (λ (l : List ℕ). length l) ran.codes
        ∙ length-map parts.processors.items (λ (p : Processing P). code (value_of_opened (of_processing p)))

    scene_stays : scene_by class_of code after ≡ scene_by class_of code parts
    scene_stays = ap (λ (codes : List ℕ). scene_of class_of codes parts.first.items (content_of parts.session)) ran.codes

    sized_span : length ins ≡ parts.session.channels * span.frames
    sized_span = sized ∙ ap (λ (m : ℕ). parts.session.channels * m) (sym is.frames)

    behind_of : (node : ℕ) → node < length work.seats.items → AreBehind span node (board_at (boards_of work.boards.items) node) (board_at (boards_of boards.items) node)
    behind_of node within = (ran.run parts.session.channels node 0 (one_of work.seats.items node within) sized_span within).behind

    module _ (room : ℕ) (ready : IsReadyFor class_of code values phase setup parts work (length entries + room)) where
      in_seats : (node : ℕ) → node < length procs.items → node < length work.seats.items
      in_seats node lt = let seats = ready.seats in omega (arith, lt, seats, procs_long)

      old_boards_long : length (boards_of work.boards.items) ≡ length parts.processors.items
      old_boards_long = ready.stage.boards_are.long ∙ length-map parts.processors.items (λ (p : Processing P). code (value_of_opened (of_processing p)))

      new_boards_long : length (boards_of boards.items) ≡ length (boards_of work.boards.items)
      new_boards_long = length-map boards.items (λ (b : Vec Control Global). b.items) ∙ ran.boards_long ∙ sym (length-map work.boards.items (λ (b : Vec Control Global). b.items))

      sent_at : (node : ℕ) → node < length procs.items → get_or (of_all values procs.items) node [] ≡ sent_of (board_at (boards_of boards.items) node)
      sent_at node lt =
          ap (λ (l : List (List ℕ)). get_or l node []) ran.sent ∙ get_or-map sent_of (boards_of boards.items) node [] [] (omega (arith, lt, new_boards_long, old_boards_long, procs_long))

      phase_in : (node : ℕ) → node < length parts.processors.items → Phase
      phase_in node within = one_of (of_all phase parts.processors.items) node (omega (arith, within, length-map parts.processors.items (λ (p : Processing P). phase (value_of_opened (of_processing p)))))

      setup_in : (node : ℕ) → node < length parts.processors.items → Setup
      setup_in node within = one_of (of_all setup parts.processors.items) node (omega (arith, within, length-map parts.processors.items (λ (p : Processing P). setup (value_of_opened (of_processing p)))))

      board_stays : (node : ℕ) → node < length parts.processors.items → IsBoard (scene_by class_of code parts) parts.session.lanes.items node (board_at (boards_of boards.items) node)
      board_stays node within =
          let lt : node < length procs.items = omega (arith, within, procs_long) in
          let inside : node < node_count (scene_by class_of code parts) = omega (arith, within, length-map parts.processors.items (λ (p : Processing P). code (value_of_opened (of_processing p)))) in
          let seated = in_seats node lt in
          let seat : Seat = one_of work.seats.items node seated in
          subst (λ (l : List (ℕ × ℕ × Lane)). IsBoard (scene_by class_of code parts) l node (board_at (boards_of boards.items) node)) is.lanes
          (board_left _ _ _ _ parts.session.channels work.max 64 span node room _ (board_at (boards_of work.boards.items) node)
          (node_in n is room ready node 0 (phase_in node within) (setup_in node within) seat within)
          (lawful (get_or (of_all code parts.processors.items) node 0)) (scene_by class_of code parts) refl (for_span n is) (board_at (boards_of boards.items) node) (behind_of node seated)
          (subst (λ (l : List (ℕ × ℕ × Lane)). IsBoard (scene_by class_of code parts) l node (board_at (boards_of work.boards.items) node)) (sym is.lanes) (ready.stage.boards_are.each node inside)))

      boards_stay : AreBoards (scene_by class_of code parts) parts.session.lanes.items (boards_of boards.items)
      boards_stay = record {
        long = new_boards_long ∙ ready.stage.boards_are.long;
        each = λ node lt. board_stays node (omega (arith, lt, length-map parts.processors.items (λ (p : Processing P). code (value_of_opened (of_processing p)))));
      }

      node_stays : (node c : ℕ) (p : Phase) (s : Setup) (d : Seat) → node < length procs.items
          → IsNode (class_of (get_or (of_all code procs.items) node c)) (get_or (of_all phase procs.items) node p) (get_or (of_all setup procs.items) node s) (get_or (of_all values procs.items) node [])
          parts.session.channels work.max 64 (length parts.session.lanes.items) room (get_or work.seats.items node d) (board_at (boards_of boards.items) node)
      node_stays node c p s d lt =
          let within : node < length parts.processors.items = omega (arith, lt, procs_long) in
          let here = node_left _ _ _ _ parts.session.channels work.max 64 span node room _ (board_at (boards_of work.boards.items) node) (node_in n is room ready node c p s d within)
          (lawful (get_or (of_all code parts.processors.items) node c)) (scene_by class_of code parts) (same_params n is node c within) (for_span n is) (board_at (boards_of boards.items) node) (behind_of node (in_seats node lt))
          (get_or (of_all values procs.items) node []) (sent_at node lt) in
          subst (λ (l : List ℕ). IsNode (class_of (get_or l node c)) (get_or (of_all phase procs.items) node p) (get_or (of_all setup procs.items) node s) (get_or (of_all values procs.items) node []) parts.session.channels work.max 64 (length parts.session.lanes.items) room
          (get_or work.seats.items node d) (board_at (boards_of boards.items) node)) (sym ran.codes)
          (subst (λ (l : List Phase). IsNode (class_of (get_or (of_all code parts.processors.items) node c)) (get_or l node p) (get_or (of_all setup procs.items) node s) (get_or (of_all values procs.items) node []) parts.session.channels work.max 64 (length parts.session.lanes.items) room
          (get_or work.seats.items node d) (board_at (boards_of boards.items) node)) (sym ran.phases)
          (subst (λ (l : List Setup). IsNode (class_of (get_or (of_all code parts.processors.items) node c)) (get_or (of_all phase parts.processors.items) node p) (get_or l node s) (get_or (of_all values procs.items) node []) parts.session.channels work.max 64 (length parts.session.lanes.items) room
          (get_or work.seats.items node d) (board_at (boards_of boards.items) node)) (sym ran.setups)
          (subst (λ (l : List (ℕ × ℕ × Lane)). IsNode (class_of (get_or (of_all code parts.processors.items) node c)) (get_or (of_all phase parts.processors.items) node p) (get_or (of_all setup parts.processors.items) node s) (get_or (of_all values procs.items) node [])
          parts.session.channels work.max 64 (length l) room (get_or work.seats.items node d) (board_at (boards_of boards.items) node)) is.lanes here)))

      -- Behind the block the engine is ready again, for the entries that may still come.
      pub ready_left : IsReadyFor class_of code values phase setup after left room
      ready_left =
          let spaced = ran.room (parts.session.channels * work.max) 64 work.max ready.rows.1 ready.space in
          record {
            stage = record {
              classes = refl;
              codes_are = refl;
              boards_are = subst (λ (s : Scene). AreBoards s parts.session.lanes.items (boards_of boards.items)) (sym scene_stays) boards_stay;
            };
            graph = subst (λ (s : Scene). IsGraph s) (sym scene_stays) ready.graph;
            few = let few = ready.few in omega (arith, few, procs_long);
            channels = ready.channels;
            most = ready.most;
            within = ready.within;
            seats = ready.seats ∙ sym procs_long;
            seat = ready.seat;
            order = ready.order;
            rows = (ran.rows_long ∙ ready.rows.0 ∙ sym procs_long, spaced.0);
            ends = ready.ends;
            few_ends = ready.few_ends;
            sources = subst (λ (m : ℕ). All (IsSource m) work.ends.items) (sym procs_long) ready.sources;
            space = spaced.1;
            given = ready.given;
            shown =
                ready.shown
                ∙ sym (sums_same (boards_of work.boards.items) (boards_of boards.items) new_boards_long (λ k lt. (behind_of k (let seats = ready.seats in omega (arith, lt, seats, old_boards_long))).long));
            within_one = ready.within_one;
            replies = ready.replies;
            nodes = node_stays;
          }

      -- what is kept of a node's parameters
      touches_here : (list : List (Vec Control Global)) (node : ℕ) → node < length (boards_of list) → get_or (map (λ (board : List Control). map touch_of board) (boards_of list)) node [] ≡ map touch_of (board_at (boards_of list) node)
      touches_here list node lt = get_or-map (λ (board : List Control). map touch_of board) (boards_of list) node [] [] lt

      in_scene : (node : ℕ) → node < node_count (scene_by class_of code parts) → node < length parts.processors.items
      in_scene node lt = omega (arith, lt, length-map parts.processors.items (λ (p : Processing P). code (value_of_opened (of_processing p))))

      module _ (input : List Frame) (coming : AreInput (scene_by class_of code parts) input work.pos n ins) where
        abbrev scene : Scene
        scene = scene_by class_of code parts

        abbrev before : ℕ → State
        before node = get_or (of_all state parts.processors.items) node []

        abbrev behind : ℕ → State
        behind node = get_or (of_all state procs.items) node []

        run_of : (node : ℕ) → node < node_count scene → IsRun (class_at scene node) (streamed scene span ins (rows_of rows.items) (boards_of work.boards.items) before node) span.frames (before node) (behind node) (row_at (rows_of rows.items) node)
        run_of node lt =
            let within = in_scene node lt in
            let seats = ready.seats in
            let seated : node < length work.seats.items = omega (arith, within, seats) in
            let seat : Seat = one_of work.seats.items node seated in
            let wires = ready.seat node seat seated in
            run_over scene span ins (rows_of rows.items) (boards_of work.boards.items) before node (get_or work.seats.items node seat) (board_at (boards_of boards.items) node) (behind node) (record { main = wires.0; aux = wires.1 })
            (ran.run parts.session.channels node 0 seat sized_span seated)

        values_of : (place node : ℕ) → place < span.frames → node < node_count scene
            → values_within scene (standing_in (kept_in code state calls parts work)) entries (work.pos + place) node ≡ values_in span node (board_at (boards_of work.boards.items) node) place
        values_of place node lt within =
            let params = params_at scene node in
            let inside : node < length (boards_of work.boards.items) = let long = ready.stage.boards_are.long in omega (arith, within, long) in
            let board = ready.stage.boards_are.each node within in
            let controls = board_at (boards_of work.boards.items) node in
            ap (λ (l : List Touch). values_now scene node params (touches_through scene (up_to (work.pos + place) entries) node params l) (work.pos + place)) (touches_here work.boards.items node inside)
            ∙ values_through_board scene parts.session.lanes.items node entries (work.pos + place) params controls board.of board.lines
            ∙ ap (λ (l : List (ℕ × ℕ × Lane)). map (λ control. value_through l node entries control (work.pos + place)) controls) (sym is.lanes)
            ∙ ap (λ (l : List Entry). map (λ control. value_through span.lanes.now node l control (work.pos + place)) controls) (sym is.entries_are)
            ∙ ap (λ (at : ℕ). map (λ control. value_through span.lanes.now node span.entries.now control (at + place)) controls) (sym is.from)

        comes : (place : ℕ) → place < span.frames → input_at scene input (work.pos + place) ≡ frame_at scene.channels span.frames ins place
        comes place lt =
            let frames = is.frames in
            sym (ap (λ (m : ℕ). frame_at scene.channels m ins place) is.frames ∙ coming place (omega (arith, lt, frames)))

        touches_left : (node : ℕ) → node < node_count scene
            → touches_through scene entries node (params_at scene node) ((standing_in (kept_in code state calls parts work)).touches node) ≡ (standing_in (kept_in code state calls after left)).touches node
        touches_left node within =
            let params = params_at scene node in
            let long = ready.stage.boards_are.long in
            let inside : node < length (boards_of work.boards.items) = omega (arith, within, long) in
            let seats = ready.seats in
            let seated : node < length work.seats.items = omega (arith, in_scene node within, seats) in
            let board = ready.stage.boards_are.each node within in
            let old = board_at (boards_of work.boards.items) node in
            let new = board_at (boards_of boards.items) node in
            let lined : IsBoard scene span.lanes.now node old = subst (λ (l : List (ℕ × ℕ × Lane)). IsBoard scene l node old) (sym is.lanes) board in
            ap (λ (l : List Touch). touches_through scene entries node params l) (touches_here work.boards.items node inside)
            ∙ ap (λ (l : List Entry). touches_through scene l node params (map touch_of old)) (sym is.entries_are)
            ∙ sym (touches_behind scene span node params old new lined.of lined.lines (behind_of node seated))
            ∙ sym (touches_here boards.items node (omega (arith, inside, new_boards_long)))

        abbrev states : ℕ → ℕ → State
        states = states_over scene span ins (rows_of rows.items) (boards_of work.boards.items) before

        over_span : IsBlockOver scene (standing_in (kept_in code state calls parts work)) (standing_in (kept_in code state calls after left)) work.pos span.frames input entries states (frames_at scene.channels span.frames (rows_of rows.items))
        over_span = record {
          start = λ node lt. refl;
          trace = trace_of_runs scene span ins (rows_of rows.items) (boards_of work.boards.items) before behind (λ o. values_within scene (standing_in (kept_in code state calls parts work)) entries (work.pos + o)) (λ o. input_at scene input (work.pos + o)) run_of values_of comes;
          states_are = state_after scene span ins (rows_of rows.items) (boards_of work.boards.items) before behind (λ o. values_within scene (standing_in (kept_in code state calls parts work)) entries (work.pos + o)) (λ o. input_at scene input (work.pos + o)) run_of values_of comes;
          touches_are = touches_left;
          answers_are = refl;
        }

        over_block : (states : ℕ → ℕ → State) × IsBlockOver scene (standing_in (kept_in code state calls parts work)) (standing_in (kept_in code state calls after left)) work.pos n input entries states (frames_at scene.channels n (rows_of rows.items))
        over_block = (
          states,
          subst (λ (m : ℕ). IsBlockOver scene (standing_in (kept_in code state calls parts work)) (standing_in (kept_in code state calls after left)) work.pos m input entries states (frames_at scene.channels m (rows_of rows.items))) is.frames over_span,
        )

      -- The nodes have gone over the block.
      pub gone_over_block : HasGoneOver (scene_by class_of code parts) (standing_in (kept_in code state calls parts work)) (standing_in (kept_in code state calls after left)) work.pos n ins entries (rows_of rows.items)
      gone_over_block input coming = over_block input coming

      -- And each processor has the values of the last sample.
      pub current_left : (s : ℕ) → s + 1 ≡ work.pos + n → AreCurrent after.session.lanes.items s (boards_of boards.items)
      current_left s last node lt =
          let from = is.from in
          let frames = is.frames in
          let seats = ready.seats in
          let seated : node < length work.seats.items = omega (arith, lt, new_boards_long, old_boards_long, seats) in
          let upto : All (λ (entry : Entry). entry.sample ≤ s) span.entries.now = λ k d inside. let past = span.between.to k d inside in omega (arith, past, from, frames, last) in
          subst (λ (l : List (ℕ × ℕ × Lane)). All (IsCurrent l s) (board_at (boards_of boards.items) node)) is.lanes
          (all_current span node s (board_at (boards_of work.boards.items) node) (board_at (boards_of boards.items) node) span.some (omega (arith, from, frames, last)) upto (behind_of node seated))

-- An engine whose nodes took the values of a sample.
use Rattle.std.proofs.Common.{◌≡◌, ◌∙◌, ℕ, suc, ◌+◌, ◌<◌, ◌≤◌, List, [], ◌∷◌, length, map, refl, sym, ap, subst, arith, Vec}
use Rattle.std.specs.Prelude.{All, slice_index_or, sum_by}
use Rattle.std.specs.declared.alloc.Global.{Global}
use Rattle.std.proofs.lemmas.List.{get_or-map, get_or_default, length-map}
use Rattle.std.proofs.lemmas.List.Sums.{sum_by-cons}
use Rattle.vh_component.specs.declared.states.Processing.{Processing}
use Rattle.vh_component.specs.declared.setup.Phase.{Phase}
use Rattle.vh_component.specs.declared.setup.Phase.TheVariants.{Processing as AtProcessing}
use Rattle.vh_component.specs.declared.setup.Setup.{Setup}
use Rattle.vh_component.specs.States.{of_processing}
use Rattle.vh_counted.specs.Held.{value_of_opened}
use Rattle.vh_lane.specs.declared.lane.Lane.{Lane}
use Rattle.vh_points.specs.declared.points.Points.{Points}
use Rattle.vh_points.specs.Model.{most_points}
use Rattle.vh_plugin.specs.Class.{Class, IsLawful, State}
use Rattle.vh_session.specs.Names.{content_of}
use Rattle.vh_journal.specs.declared.entry.Entry.{Entry}
use Rattle.vh_meaning.specs.Scene.{scene_of, params_at}
use Rattle.vh_meaning.specs.Rendering.{Answer}
use Rattle.vh_meaning.specs.Stands.{Touch, Standing}
use Rattle.vh_engine.specs.declared.control.Control.{Control}
use Rattle.vh_engine.specs.declared.parts.Parts.{Parts}
use Rattle.vh_engine.specs.declared.seat.Seat.{Seat}
use Rattle.vh_engine.specs.declared.span.Span.{Span}
use Rattle.vh_engine.specs.declared.work.Work.{Work}
use Rattle.vh_engine.specs.Blocks.{IsCurrent, AreCurrent}
use Rattle.vh_engine.specs.Buses.{IsSource}
use Rattle.vh_engine.specs.Controls.{touch_of, line_of, touch_through}
use Rattle.vh_engine.specs.Engine.{IsNode, IsGraph, IsReadyFor}
use Rattle.vh_engine.specs.Nodes.{AreBehind, sent_of}
use Rattle.vh_engine.specs.Kept.{IsFor}
use Rattle.vh_engine.specs.Parts.{scene_by}
use Rattle.vh_engine.specs.Queued.{most_queues}
use Rattle.vh_engine.specs.Runs.{IsSpacious, IsFlushReady}
use Rattle.vh_engine.specs.Staged.{of_all, boards_of, board_at, IsBoard, AreBoards}
use Rattle.vh_engine.specs.Told.{IsStage}
use Rattle.vh_engine.proofs.Here.{node_here}
use Rattle.vh_engine.proofs.Left.{map_same, node_controls, node_left, board_left}
use Rattle.vh_engine.proofs.Taking.{all_current}

-- as many parameters as before
sum_same : (old new : List (List Control)) → length new ≡ length old → ((node : ℕ) → node < length old → length (board_at new node) ≡ length (board_at old node))
    → sum_by (λ (board : List Control). length board) new ≡ sum_by (λ (board : List Control). length board) old
sum_same [] [] long each = refl
sum_same [] (board ∷ boards) long each = absurd (omega (arith, long))
sum_same (board ∷ boards) [] long each = absurd (omega (arith, long))
sum_same (board ∷ old) (other ∷ new) long each =
    let one = sum_by-cons (λ (b : List Control). length b) board old in
    let two = sum_by-cons (λ (b : List Control). length b) other new in
    let rest = sum_same old new (omega (arith, long)) (λ node lt. each (suc node) (omega (arith, lt))) in
    let first = each 0 (omega arith) in
    omega (arith, one, two, rest, first)

touches_same : (old new : List (List Control)) → length new ≡ length old → ((node : ℕ) → node < length old → map touch_of (board_at new node) ≡ map touch_of (board_at old node))
    → map (λ (board : List Control). map touch_of board) new ≡ map (λ (board : List Control). map touch_of board) old
touches_same [] [] long each = refl
touches_same [] (board ∷ boards) long each = absurd (omega (arith, long))
touches_same (board ∷ boards) [] long each = absurd (omega (arith, long))
touches_same (board ∷ old) (other ∷ new) long each =
    ap (λ (touches : List Touch). touches ∷ map (λ (b : List Control). map touch_of b) new) (each 0 (omega arith))
    ∙ ap (λ (l : List (List Touch)). map touch_of board ∷ l) (touches_same old new (omega (arith, long)) (λ node lt. each (suc node) (omega (arith, lt))))

-- what is kept of a rendering, from lists
abbrev pub standing_over : List State → List (List Touch) → List Answer → Standing
standing_over states touches answers = record {
  states = λ node. slice_index_or states node [];
  touches = λ node. slice_index_or touches node [];
  answers = answers;
}

abbrev pub touches_over : List (Vec Control Global) → List (List Touch)
touches_over boards = map (λ (board : List Control). map touch_of board) (boards_of boards)

module _ {P : Type 0} (class_of : ℕ → Class) (code : P → ℕ) (values : P → List ℕ) (phase : P → Phase) (setup : P → Setup) (parts : Parts P) (work : Work) (room : ℕ)
    (ready : IsReadyFor class_of code values phase setup parts work room) (lawful : (c : ℕ) → IsLawful (class_of c)) (span : Span)
    (lanes : span.lanes.now ≡ parts.session.lanes.items) (none : span.entries.now ≡ []) where
  abbrev codes_before : List ℕ
  codes_before = of_all code parts.processors.items

  abbrev before : ℕ → List Control
  before node = board_at (boards_of work.boards.items) node

  for_none : All (λ entry. IsFor (scene_by class_of code parts) entry.command) span.entries.now
  for_none = subst (λ (l : List Entry). All (λ entry. IsFor (scene_by class_of code parts) entry.command) l) (sym none) (λ k d lt. absurd (omega (arith, lt)))

  codes_long : length codes_before ≡ length parts.processors.items
  codes_long = length-map parts.processors.items (λ processor. code (value_of_opened (of_processing processor)))

  same_params : (node c : ℕ) → node < length parts.processors.items → params_at (scene_by class_of code parts) node ≡ (class_of (slice_index_or codes_before node c)).params
  same_params node c within = ap (λ (k : ℕ). (class_of k).params) (get_or_default codes_before node 0 c (omega (arith, within, codes_long)))

  -- a node, as a sample without entries finds it
  abbrev pub IsNodeIn : ℕ → ℕ → Phase → Setup → Seat → Type 0
  IsNodeIn node c p s d = IsNode (class_of (slice_index_or codes_before node c)) (slice_index_or (of_all phase parts.processors.items) node p) (slice_index_or (of_all setup parts.processors.items) node s)
      (slice_index_or (of_all values parts.processors.items) node []) parts.session.channels work.max 64 (length span.lanes.now) (length span.entries.now + room) (slice_index_or work.seats.items node d) (before node)

  node_in : (node c : ℕ) (p : Phase) (s : Setup) (d : Seat) → node < length parts.processors.items → IsNodeIn node c p s d
  node_in node c p s d lt =
      let class = class_of (slice_index_or codes_before node c) in
      let phase_here = slice_index_or (of_all phase parts.processors.items) node p in
      let setup_here = slice_index_or (of_all setup parts.processors.items) node s in
      let values_here : List ℕ = slice_index_or (of_all values parts.processors.items) node [] in
      let seat = slice_index_or work.seats.items node d in
      let empty : length span.entries.now ≡ 0 = ap (λ (l : List Entry). length l) none in
      let more : room ≡ length span.entries.now + room = omega (arith, empty) in
      subst (λ (n : ℕ). IsNode class phase_here setup_here values_here parts.session.channels work.max 64 (length span.lanes.now) n seat (before node)) more
      (subst (λ (l : List (ℕ × ℕ × Lane)). IsNode class phase_here setup_here values_here parts.session.channels work.max 64 (length l) room seat (before node)) (sym lanes) (ready.nodes node c p s d lt))

  -- the flush finds what it needs of each node
  pub flush_finds : (node c : ℕ) (p : Phase) → node < length parts.processors.items
      → IsFlushReady (class_of (slice_index_or codes_before node c)) (slice_index_or (of_all phase parts.processors.items) node p) (slice_index_or (of_all values parts.processors.items) node []) 64 span node (before node)
  flush_finds node c p lt =
      let here = node_here class_of code values phase setup parts work room ready node c p lt in
      let is = node_in node c p here.0 here.1 lt in
      record {
        phase_is = is.phase_is;
        of = is.of;
        sent = is.sent;
        controls_are = node_controls _ _ _ _ parts.session.channels work.max 64 span node room _ (before node) is (lawful (slice_index_or codes_before node c)) (scene_by class_of code parts) (same_params node c lt) for_none;
        few = is.few;
      }

  module _ (one : span.frames ≡ 1) (processors : List (Processing P)) (boards : List (Vec Control Global))
      (behind : (node : ℕ) → node < length parts.processors.items → AreBehind span node (before node) (board_at (boards_of boards) node))
      (long : length boards ≡ length work.boards.items) where
    counted : length (boards_of work.boards.items) ≡ length parts.processors.items
    counted = ready.stage.boards_are.long ∙ length-map parts.processors.items (λ processor. code (value_of_opened (of_processing processor)))

    boards_long : length (boards_of boards) ≡ length (boards_of work.boards.items)
    boards_long = length-map boards (λ (b : Vec Control Global). b.items) ∙ long ∙ sym (length-map work.boards.items (λ (b : Vec Control Global). b.items))

    pub current_over : AreCurrent parts.session.lanes.items span.from (boards_of boards)
    current_over node lt =
        let upto : All (λ (entry : Entry). entry.sample ≤ span.from) span.entries.now = subst (λ (l : List Entry). All (λ (e : Entry). e.sample ≤ span.from) l) (sym none) (λ k d inside. absurd (omega (arith, inside))) in
        subst (λ (l : List (ℕ × ℕ × Lane)). All (IsCurrent l span.from) (board_at (boards_of boards) node)) lanes
        (all_current span node span.from (before node) (board_at (boards_of boards) node) span.some (omega (arith, one)) upto (behind node (omega (arith, lt, boards_long, counted))))

    touches_here : (node : ℕ) → node < length parts.processors.items → map touch_of (board_at (boards_of boards) node) ≡ map touch_of (before node)
    touches_here node lt =
        let are = behind node lt in
        map_same touch_of (before node) (board_at (boards_of boards) node) are.long (λ k d inside.
        let control = slice_index_or (before node) k d in
        (are.each k d inside).touch ∙ ap (λ (l : List Entry). touch_through (line_of span.lanes.now control) control.steps node control.id l (touch_of control)) none)

    pub touches_stay : touches_over boards ≡ touches_over work.boards.items
    touches_stay = touches_same (boards_of work.boards.items) (boards_of boards) boards_long (λ node lt. touches_here node (omega (arith, lt, counted)))

    module _ (sent : of_all values processors ≡ map sent_of (boards_of boards)) (codes : of_all code processors ≡ codes_before) (phases : of_all phase processors ≡ of_all phase parts.processors.items)
        (setups : of_all setup processors ≡ of_all setup parts.processors.items) where
      same_count : length processors ≡ length parts.processors.items
      same_count =
          sym (length-map processors (λ processor. code (value_of_opened (of_processing processor))))
          ∙ ap (λ (l : List ℕ). length l) codes
          ∙ length-map parts.processors.items (λ processor. code (value_of_opened (of_processing processor)))

      boards_settled : AreBoards (scene_by class_of code parts) parts.session.lanes.items (boards_of boards)
      boards_settled = record {
        long = boards_long ∙ ready.stage.boards_are.long;
        each = λ node lt.
            let within : node < length parts.processors.items = omega (arith, lt, codes_long) in
            let here = node_here class_of code values phase setup parts work room ready node 0 AtProcessing within in
            subst (λ (l : List (ℕ × ℕ × Lane)). IsBoard (scene_by class_of code parts) l node (board_at (boards_of boards) node)) lanes
            (board_left _ _ _ _ parts.session.channels work.max 64 span node room _ (before node) (node_in node 0 AtProcessing here.0 here.1 within) (lawful (slice_index_or codes_before node 0)) (scene_by class_of code parts)
            (same_params node 0 within) for_none (board_at (boards_of boards) node) (behind node within)
            (subst (λ (l : List (ℕ × ℕ × Lane)). IsBoard (scene_by class_of code parts) l node (before node)) (sym lanes) (ready.stage.boards_are.each node lt)));
      }

      stage_settled : IsStage class_of (of_all code processors) (scene_of class_of (of_all code processors) parts.first.items (content_of parts.session)) parts.session.lanes.items (boards_of boards)
      stage_settled =
          subst (λ (l : List ℕ). IsStage class_of l (scene_of class_of l parts.first.items (content_of parts.session)) parts.session.lanes.items (boards_of boards)) (sym codes)
          (record { classes = ready.stage.classes; codes_are = refl; boards_are = boards_settled })

      sent_here : (node : ℕ) → node < length parts.processors.items → slice_index_or (of_all values processors) node [] ≡ sent_of (board_at (boards_of boards) node)
      sent_here node lt =
          ap (λ (l : List (List ℕ)). slice_index_or l node []) sent
          ∙ get_or-map sent_of (boards_of boards) node [] [] (omega (arith, lt, boards_long, counted))

      nodes_settled : (node c : ℕ) (p : Phase) (s : Setup) (d : Seat) → node < length parts.processors.items
          → IsNode (class_of (slice_index_or codes_before node c)) (slice_index_or (of_all phase parts.processors.items) node p) (slice_index_or (of_all setup parts.processors.items) node s)
          (slice_index_or (of_all values processors) node []) parts.session.channels work.max 64 (length parts.session.lanes.items) room (slice_index_or work.seats.items node d) (board_at (boards_of boards) node)
      nodes_settled node c p s d lt =
          let class = class_of (slice_index_or codes_before node c) in
          let phase_here = slice_index_or (of_all phase parts.processors.items) node p in
          let setup_here = slice_index_or (of_all setup parts.processors.items) node s in
          let values_now : List ℕ = slice_index_or (of_all values processors) node [] in
          let seat = slice_index_or work.seats.items node d in
          let new = board_at (boards_of boards) node in
          subst (λ (l : List (ℕ × ℕ × Lane)). IsNode class phase_here setup_here values_now parts.session.channels work.max 64 (length l) room seat new) lanes
          (node_left class phase_here setup_here _ parts.session.channels work.max 64 span node room seat (before node) (node_in node c p s d lt) (lawful (slice_index_or codes_before node c)) (scene_by class_of code parts)
          (same_params node c lt) for_none new (behind node lt) values_now (sent_here node lt))

      -- behind the sample the engine is as ready as before
      pub settled : (after : Vec (Processing P) Global) (kept : Vec (Vec Control Global) Global) (points : Points) → after.items ≡ processors → kept.items ≡ boards → most_queues points ≡ most_queues work.space.points → most_points points ≡ most_points work.space.points
          → IsReadyFor class_of code values phase setup (record parts { processors = after }) (record work { boards = kept; space = record work.space { points = points } }) room
      settled after kept points are hold queues more =
          let count = same_count in
          record {
            stage = subst (λ (l : List (Vec Control Global)). IsStage class_of (of_all code after.items) (scene_by class_of code (record parts { processors = after })) parts.session.lanes.items (boards_of l)) (sym hold)
                (subst (λ (l : List (Processing P)). IsStage class_of (of_all code l) (scene_of class_of (of_all code l) parts.first.items (content_of parts.session)) parts.session.lanes.items (boards_of boards)) (sym are) stage_settled);
            graph = subst (λ (l : List (Processing P)). IsGraph (scene_of class_of (of_all code l) parts.first.items (content_of parts.session))) (sym are)
                (subst (λ (l : List ℕ). IsGraph (scene_of class_of l parts.first.items (content_of parts.session))) (sym codes) ready.graph);
            few = let few = ready.few in let items = ap (λ (l : List (Processing P)). length l) are in omega (arith, few, items, count);
            channels = ready.channels;
            most = ready.most;
            within = ready.within;
            seats = ready.seats ∙ sym (ap (λ (l : List (Processing P)). length l) are ∙ count);
            seat = ready.seat;
            order = ready.order;
            rows = (ready.rows.0 ∙ sym (ap (λ (l : List (Processing P)). length l) are ∙ count), ready.rows.1);
            ends = ready.ends;
            few_ends = ready.few_ends;
            sources = subst (λ (n : ℕ). All (IsSource n) work.ends.items) (sym (ap (λ (l : List (Processing P)). length l) are ∙ count)) ready.sources;
            space = record {
              sums = ready.space.sums;
              main = ready.space.main;
              aux = ready.space.aux;
              out = ready.space.out;
              queues = subst (λ (n : ℕ). 64 ≤ n) (sym queues) ready.space.queues;
              points = let room = ready.space.points in omega (arith, room, more);
            };
            given = ready.given;
            shown = ready.shown
                ∙ sym (sum_same (boards_of work.boards.items) (boards_of boards) boards_long (λ node lt. (behind node (omega (arith, lt, counted))).long))
                ∙ ap (λ (l : List (Vec Control Global)). sum_by (λ (board : List Control). length board) (boards_of l)) (sym hold);
            within_one = ready.within_one;
            replies = ready.replies;
            nodes = λ node c p s d lt.
                let within : node < length parts.processors.items = let items = ap (λ (l : List (Processing P)). length l) are in omega (arith, lt, items, count) in
                subst (λ (l : List (Vec Control Global)). IsNode (class_of (slice_index_or (of_all code after.items) node c)) (slice_index_or (of_all phase after.items) node p) (slice_index_or (of_all setup after.items) node s)
                (slice_index_or (of_all values after.items) node []) parts.session.channels work.max 64 (length parts.session.lanes.items) room (slice_index_or work.seats.items node d) (board_at (boards_of l) node)) (sym hold)
                (subst (λ (l : List (Processing P)). IsNode (class_of (slice_index_or (of_all code l) node c)) (slice_index_or (of_all phase l) node p) (slice_index_or (of_all setup l) node s)
                (slice_index_or (of_all values l) node []) parts.session.channels work.max 64 (length parts.session.lanes.items) room (slice_index_or work.seats.items node d) (board_at (boards_of boards) node)) (sym are)
                (subst (λ (l : List ℕ). IsNode (class_of (slice_index_or l node c)) (slice_index_or (of_all phase processors) node p) (slice_index_or (of_all setup processors) node s)
                (slice_index_or (of_all values processors) node []) parts.session.channels work.max 64 (length parts.session.lanes.items) room (slice_index_or work.seats.items node d) (board_at (boards_of boards) node)) (sym codes)
                (subst (λ (l : List Phase). IsNode (class_of (slice_index_or codes_before node c)) (slice_index_or l node p) (slice_index_or (of_all setup processors) node s)
                (slice_index_or (of_all values processors) node []) parts.session.channels work.max 64 (length parts.session.lanes.items) room (slice_index_or work.seats.items node d) (board_at (boards_of boards) node)) (sym phases)
                (subst (λ (l : List Setup). IsNode (class_of (slice_index_or codes_before node c)) (slice_index_or (of_all phase parts.processors.items) node p) (slice_index_or l node s)
                (slice_index_or (of_all values processors) node []) parts.session.channels work.max 64 (length parts.session.lanes.items) room (slice_index_or work.seats.items node d) (board_at (boards_of boards) node)) (sym setups)
                (nodes_settled node c p s d within)))));
          }

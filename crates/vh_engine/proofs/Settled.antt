-- Nodes that take the values of a sample without a frame.
use Rattle.std.proofs.Common.{◌≡◌, ◌≢◌, ◌∙◌, ◌⊎◌, inl, inr, ℕ, ◌+◌, ◌*◌, ◌<◌, ◌≤◌, List, [], length, map, get_or, set, Vec, refl, sym, ap, subst, arith}
use Rattle.std.specs.declared.alloc.Global.{Global}
use Rattle.std.proofs.lemmas.Bool.{cases_eq}
use Rattle.std.proofs.lemmas.List.{length-map, length-set, map-set, get_or-map}
use Rattle.vh_component.specs.declared.setup.Phase.{Phase}
use Rattle.vh_component.specs.declared.setup.Setup.{Setup}
use Rattle.vh_component.specs.declared.states.Processing.{Processing}
use Rattle.vh_component.specs.States.{of_processing}
use Rattle.vh_counted.specs.Held.{value_of_opened, object_of_opened, numbers_of_opened}
use Rattle.vh_plugin.specs.Blocks.{AreFor}
use Rattle.vh_plugin.specs.Class.{Class, State}
use Rattle.vh_plugin.specs.Counts.{raised}
use Rattle.vh_points.specs.Queues.{Queue}
use Rattle.vh_engine.specs.declared.control.Control.{Control}
use Rattle.vh_engine.specs.declared.span.Span.{Span}
use Rattle.vh_engine.specs.Nodes.{sent_of, AreOf, AreBehind}
use Rattle.vh_engine.specs.Queued.{AreSent}
use Rattle.vh_engine.specs.Runs.{IsFlushReady}
use Rattle.vh_engine.specs.Staged.{of_all, holders_of, boards_of, board_at}
use Rattle.vh_engine.proofs.Called.{one_of, map_here, map_put, map_apart, map_stays, maps_both, AreCalled, IsOneMore, called_none, called_more, called_all}
use Rattle.vh_engine.proofs.Running.{sent_for}
use Rattle.vh_engine.proofs.Turns.{all_sent}

-- points of any offset may stand where there is no frame
pub sent_for_none : (class : Class) (span : Span) (node : ℕ) (controls : List Control) (queues : List Queue) → AreOf class.params controls → AreSent span node controls queues → AreFor class 0 queues
sent_for_none class span node controls queues are sent = record {
  writable = (sent_for class span node controls queues are sent).writable;
  offsets = λ i d lt j e inside. inr refl;
}

-- what the flush needs of a node, in other words
pub flush_in_words : (params : ℕ) (span : Span) (node : ℕ) (class one : Class) (phase at : Phase) (values sent : List ℕ) (old olds : List Control)
    → class ≡ one → phase ≡ at → values ≡ sent → old ≡ olds → IsFlushReady class phase values params span node old → IsFlushReady one at sent params span node olds
flush_in_words params span node class one phase at values sent old olds same_class same_phase same_values same_old ready =
    subst (λ (x : Class). IsFlushReady x at sent params span node olds) same_class
    (subst (λ (x : Phase). IsFlushReady class x sent params span node olds) same_phase
    (subst (λ (x : List ℕ). IsFlushReady class phase x params span node olds) same_values
    (subst (λ (x : List Control). IsFlushReady class phase values params span node x) same_old ready)))

below_one_more : (node : ℕ) → IsOneMore (λ other. other < node) (λ other. other < node + 1) node
below_one_more node = record {
  missing = λ lt. omega (arith, lt);
  split = λ other lt. elim (cases_eq other node) [
    | inl same ↦ inr (sym same)
    | inr apart ↦ inl (omega (arith, lt, apart))
  ];
  kept = λ other lt. omega (arith, lt);
  now = omega arith;
}

module _ {P : Type 0} (class_of : ℕ → Class) (code : P → ℕ) (state : P → State) (values : P → List ℕ) (calls : P → ℕ) (phase : P → Phase) (setup : P → Setup) (span : Span) where
  -- the nodes before a place took the values, the others are as they were, and no call changed what a processor is
  pub record AreSettled (place : ℕ) (olds processors : List (Processing P)) (befores boards : List (Vec Control Global)) : Type 0 where
    pub behind : (node : ℕ) → node < place → node < length olds → AreBehind span node (board_at (boards_of befores) node) (board_at (boards_of boards) node)
    pub waits : (node : ℕ) → place ≤ node → board_at (boards_of boards) node ≡ board_at (boards_of befores) node
    pub states : of_all state processors ≡ of_all state olds
    pub sent : of_all values processors ≡ map sent_of (boards_of boards)
    pub calls_are : AreCalled (λ node. node < place) (of_all calls olds) (of_all calls processors)
    pub codes : of_all code processors ≡ of_all code olds
    pub phases : of_all phase processors ≡ of_all phase olds
    pub setups : of_all setup processors ≡ of_all setup olds
    pub holders : holders_of processors ≡ holders_of olds
    pub nodes : length processors ≡ length olds
    pub boards_long : length boards ≡ length olds

  pub settled_none : (processors : List (Processing P)) (boards : List (Vec Control Global)) → length boards ≡ length processors → of_all values processors ≡ map sent_of (boards_of boards) → AreSettled 0 processors processors boards boards
  settled_none processors boards long sent = record {
    behind = λ node lt within. absurd (omega (arith, lt));
    waits = λ node le. refl;
    states = refl;
    sent = sent;
    calls_are = called_none (λ node. node < 0) (of_all calls processors) (λ node lt. omega (arith, lt));
    codes = refl;
    phases = refl;
    setups = refl;
    holders = refl;
    nodes = refl;
    boards_long = long;
  }

  pub first_settled : (params : ℕ) (olds : List (Processing P)) (befores : List (Vec Control Global)) → length befores ≡ length olds
      → ((node c : ℕ) (p : Phase) → node < length olds → IsFlushReady (class_of (get_or (of_all code olds) node c)) (get_or (of_all phase olds) node p) (get_or (of_all values olds) node []) params span node (board_at (boards_of befores) node))
      → of_all values olds ≡ map sent_of (boards_of befores)
  first_settled params olds befores long ready =
      let valued = length-map olds (λ (p : Processing P). values (value_of_opened (of_processing p))) in
      let phased = length-map olds (λ (p : Processing P). phase (value_of_opened (of_processing p))) in
      let boarded = length-map befores (λ (b : Vec Control Global). b.items) in
      all_sent (of_all values olds) (boards_of befores) (omega (arith, valued, boarded, long)) (λ node inside.
      let within : node < length olds = omega (arith, inside, valued) in
      (ready node 0 (one_of (of_all phase olds) node (omega (arith, within, phased))) within).sent)

  -- what a node's call changes
  pub record HasSettled (node : ℕ) (old new : Processing P) (before after : Vec Control Global) : Type 0 where
    pub behind : AreBehind span node before.items after.items
    pub state_is : state (value_of_opened (of_processing new)) ≡ state (value_of_opened (of_processing old))
    pub sent : values (value_of_opened (of_processing new)) ≡ sent_of after.items
    pub called : calls (value_of_opened (of_processing new)) ≡ raised (calls (value_of_opened (of_processing old)))
    pub code_is : code (value_of_opened (of_processing new)) ≡ code (value_of_opened (of_processing old))
    pub phase_is : phase (value_of_opened (of_processing new)) ≡ phase (value_of_opened (of_processing old))
    pub setup_is : setup (value_of_opened (of_processing new)) ≡ setup (value_of_opened (of_processing old))
    pub object : object_of_opened (of_processing new) ≡ object_of_opened (of_processing old)
    pub numbers : numbers_of_opened (of_processing new) ≡ numbers_of_opened (of_processing old)

  module _ (node : ℕ) (olds processors : List (Processing P)) (befores boards : List (Vec Control Global)) (is : AreSettled node olds processors befores boards) (within : node < length processors)
      (processor : Processing P) (board : Vec Control Global) (processor_is : processor ≡ get_or processors node processor) (board_is : board ≡ get_or boards node board) where
    inside_boards : node < length boards
    inside_boards = let nodes = is.nodes in let long = is.boards_long in omega (arith, within, nodes, long)

    board_here : board_at (boards_of boards) node ≡ board.items
    board_here = map_here (λ (b : Vec Control Global). b.items) boards node board [] inside_boards board_is

    first_board : board_at (boards_of befores) node ≡ board.items
    first_board = sym (is.waits node (omega arith)) ∙ board_here

    -- before its call it is as it was
    pub settle_ready : (params : ℕ) → ((c : ℕ) (p : Phase) → IsFlushReady (class_of (get_or (of_all code olds) node c)) (get_or (of_all phase olds) node p) (get_or (of_all values olds) node []) params span node (board_at (boards_of befores) node))
        → IsFlushReady (class_of (code (value_of_opened (of_processing processor)))) (phase (value_of_opened (of_processing processor))) (values (value_of_opened (of_processing processor))) params span node board.items
    settle_ready params ready =
        let value = value_of_opened (of_processing processor) in
        let first = ready 0 (phase value) in
        let code_here : code value ≡ get_or (of_all code olds) node 0 = sym (map_here (λ (p : Processing P). code (value_of_opened (of_processing p))) processors node processor 0 within processor_is) ∙ ap (λ (l : List ℕ). get_or l node 0) is.codes in
        let phase_here : phase value ≡ get_or (of_all phase olds) node (phase value) =
        sym (map_here (λ (p : Processing P). phase (value_of_opened (of_processing p))) processors node processor (phase value) within processor_is) ∙ ap (λ (l : List Phase). get_or l node (phase value)) is.phases in
        let values_here : values value ≡ sent_of board.items =
        sym (map_here (λ (p : Processing P). values (value_of_opened (of_processing p))) processors node processor [] within processor_is)
        ∙ ap (λ (l : List (List ℕ)). get_or l node []) is.sent
        ∙ get_or-map sent_of (boards_of boards) node [] [] (omega (arith, inside_boards, length-map boards (λ (b : Vec Control Global). b.items)))
        ∙ ap sent_of board_here in
        flush_in_words params span node _ _ _ _ _ _ _ _ (sym (ap class_of code_here)) (sym phase_here) (first.sent ∙ ap sent_of first_board ∙ sym values_here) first_board first

    -- Then one more took them.
    pub settled_more : (new : Processing P) (after : Vec Control Global) → HasSettled node processor new board after → AreSettled (node + 1) olds (set processors node new) befores (set boards node after)
    settled_more new after settled = record {
      behind = λ other lt among. elim (cases_eq other node) [
        | inl same ↦
            subst (λ (m : ℕ). AreBehind span m (board_at (boards_of befores) m) (board_at (boards_of (set boards node after)) m)) (sym same)
            (subst (λ (l : List Control). AreBehind span node (board_at (boards_of befores) node) l) (sym (map_put (λ (b : Vec Control Global). b.items) boards node after [] inside_boards))
            (subst (λ (l : List Control). AreBehind span node l after.items) (sym first_board) settled.behind))
        | inr apart ↦
            subst (λ (l : List Control). AreBehind span other (board_at (boards_of befores) other) l) (sym (map_apart (λ (b : Vec Control Global). b.items) boards node other after [] apart))
            (is.behind other (omega (arith, lt, apart)) among)
      ];
      waits = λ other le.
          let apart : other ≢ node = λ same. omega (arith, le, same) in
          map_apart (λ (b : Vec Control Global). b.items) boards node other after [] apart ∙ is.waits other (omega (arith, le));
      states = map_stays (λ (p : Processing P). state (value_of_opened (of_processing p))) processors node processor new within processor_is settled.state_is ∙ is.states;
      sent =
          maps_both (λ (p : Processing P). values (value_of_opened (of_processing p))) sent_of processors (boards_of boards) node new after.items is.sent settled.sent
          ∙ sym (ap (λ (l : List (List Control)). map sent_of l) (map-set (λ (b : Vec Control Global). b.items) boards node after));
      calls_are =
          let counts = λ (p : Processing P). calls (value_of_opened (of_processing p)) in
          let was : calls (value_of_opened (of_processing processor)) ≡ get_or (of_all calls processors) node 0 = sym (map_here counts processors node processor 0 within processor_is) in
          let nodes = is.nodes in
          subst (λ (l : List ℕ). AreCalled (λ other. other < node + 1) (of_all calls olds) l) (sym (map-set counts processors node new))
          (called_more (λ other. other < node) (λ other. other < node + 1) (of_all calls olds) (of_all calls processors) node (calls (value_of_opened (of_processing new))) (below_one_more node)
          (omega (arith, within, nodes, length-map olds counts)) (settled.called ∙ ap raised was) is.calls_are);
      codes = map_stays (λ (p : Processing P). code (value_of_opened (of_processing p))) processors node processor new within processor_is settled.code_is ∙ is.codes;
      phases = map_stays (λ (p : Processing P). phase (value_of_opened (of_processing p))) processors node processor new within processor_is settled.phase_is ∙ is.phases;
      setups = map_stays (λ (p : Processing P). setup (value_of_opened (of_processing p))) processors node processor new within processor_is settled.setup_is ∙ is.setups;
      holders = map_stays (λ (p : Processing P). (object_of_opened (of_processing p), numbers_of_opened (of_processing p))) processors node processor new within processor_is (let object = settled.object in let numbers = settled.numbers in cc) ∙ is.holders;
      nodes = length-set processors node new ∙ is.nodes;
      boards_long = length-set boards node after ∙ is.boards_long;
    }

  -- Behind the last all did.
  pub settled_calls : (place : ℕ) (olds processors : List (Processing P)) (befores boards : List (Vec Control Global)) → AreSettled place olds processors befores boards → length olds ≤ place → of_all calls processors ≡ map raised (of_all calls olds)
  settled_calls place olds processors befores boards is end =
      called_all (λ node. node < place) (of_all calls olds) (of_all calls processors) is.calls_are (λ node lt. omega (arith, lt, end, length-map olds (λ (p : Processing P). calls (value_of_opened (of_processing p)))))

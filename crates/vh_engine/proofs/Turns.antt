-- Nodes that run in their order.
use Rattle.std.proofs.Common.{◌≡◌, ◌≢◌, ◌∙◌, inl, inr, ℕ, ◌+◌, ◌*◌, ◌<◌, ◌≤◌, List, [], ◌∷◌, ◌++◌, length, map, get_or, set, take, drop, ℤ, Vec, refl, sym, ap, subst, arith}
use Rattle.std.specs.Prelude.{All, Contains}
use Rattle.std.specs.declared.alloc.Global.{Global}
use Rattle.std.proofs.Math.Nat.{eq_of_mul-eq-mul_right}
use Rattle.std.proofs.lemmas.List.{length-map, length-set, map-set, take_more, drop_more, get_or-map, get_or_read, ext_get_or, drop_all}
use Rattle.std.proofs.lemmas.List.Elements.{All-weaker, Contains-append_left, Contains-push, Contains-push_cases}
use Rattle.vh_component.specs.declared.setup.Phase.{Phase}
use Rattle.vh_component.specs.declared.setup.Setup.{Setup}
use Rattle.vh_component.specs.declared.states.Processing.{Processing}
use Rattle.vh_component.specs.States.{of_processing}
use Rattle.vh_counted.specs.Held.{value_of_opened, object_of_opened, numbers_of_opened}
use Rattle.vh_plugin.specs.Class.{Class, State}
use Rattle.vh_plugin.specs.Counts.{raised}
use Rattle.vh_session.specs.declared.wire.End.{End}
use Rattle.vh_session.specs.declared.wire.End.TheVariants.{In, Out, Node as AtNode}
use Rattle.vh_engine.specs.declared.control.Control.{Control}
use Rattle.vh_engine.specs.declared.seat.Seat.{Seat}
use Rattle.vh_engine.specs.declared.space.Space.{Space}
use Rattle.vh_engine.specs.declared.span.Span.{Span}
use Rattle.vh_engine.specs.Buses.{rows_of, row_at, IsSource, HaveRoom}
use Rattle.vh_engine.specs.Nodes.{sent_of}
use Rattle.vh_engine.specs.Runs.{HasRun, IsFrom, AreAfter, IsSpacious, IsNodeReady}
use Rattle.vh_engine.specs.Staged.{of_all, holders_of, boards_of, board_at}
use Rattle.vh_engine.proofs.Called.{one_of, map_here, map_put, map_apart, map_stays, maps_both, AreCalled, IsOneMore, called_none, called_more, called_all}
use Rattle.vh_engine.proofs.Placed.{IsBehindThem, HaveRun, IsNext, none_ran, one_more_ran}

-- a node's run is the same in other words
pub run_in_words : (span : Span) (ins : List ℤ) (rows : List (List ℤ)) (node : ℕ) (samples : List ℤ) (class one : Class) (channels two : ℕ) (seat place : Seat) (old olds new news : List Control) (before first after last : State)
    → class ≡ one → channels ≡ two → seat ≡ place → old ≡ olds → new ≡ news → before ≡ first → after ≡ last
    → HasRun class channels span ins rows seat node old new before after samples → HasRun one two span ins rows place node olds news first last samples
run_in_words span ins rows node samples class one channels two seat place old olds new news before first after last same_class same_channels same_seat same_old same_new same_before same_after run =
    subst (λ (x : Class). HasRun x two span ins rows place node olds news first last samples) same_class
    (subst (λ (x : ℕ). HasRun class x span ins rows place node olds news first last samples) same_channels
    (subst (λ (x : Seat). HasRun class channels span ins rows x node olds news first last samples) same_seat
    (subst (λ (x : List Control). HasRun class channels span ins rows seat node x news first last samples) same_old
    (subst (λ (x : List Control). HasRun class channels span ins rows seat node old x first last samples) same_new
    (subst (λ (x : State). HasRun class channels span ins rows seat node old new x last samples) same_before
    (subst (λ (x : State). HasRun class channels span ins rows seat node old new before x samples) same_after run))))))

-- and so is what a block needs of it
pub ready_in_words : (params : ℕ) (span : Span) (node : ℕ) (class one : Class) (phase at : Phase) (setup up : Setup) (values sent : List ℕ) (channels : ℕ) (seat place : Seat) (old olds : List Control)
    → class ≡ one → phase ≡ at → setup ≡ up → values ≡ sent → seat ≡ place → old ≡ olds
    → IsNodeReady class phase setup values channels params span node seat old → IsNodeReady one at up sent up.channels params span node place olds
ready_in_words params span node class one phase at setup up values sent channels seat place old olds same_class same_phase same_setup same_values same_seat same_old ready =
    let here : IsNodeReady class phase setup values setup.channels params span node seat old =
    subst (λ (x : ℕ). IsNodeReady class phase setup values x params span node seat old) (sym ready.channels_are) ready in
    subst (λ (x : Class). IsNodeReady x at up sent up.channels params span node place olds) same_class
    (subst (λ (x : Phase). IsNodeReady class x up sent up.channels params span node place olds) same_phase
    (subst (λ (x : Setup). IsNodeReady class phase x sent x.channels params span node place olds) same_setup
    (subst (λ (x : List ℕ). IsNodeReady class phase setup x setup.channels params span node place olds) same_values
    (subst (λ (x : Seat). IsNodeReady class phase setup values setup.channels params span node x olds) same_seat
    (subst (λ (x : List Control). IsNodeReady class phase setup values setup.channels params span node seat x) same_old here)))))

nothing : {A : Type 0} (node : ℕ) → Contains [] node → A
nothing node is = absurd (let lt = is.1 in omega (arith, lt))

-- one more node of the order
pub one_more : (order : List ℕ) (place node : ℕ) → place < length order → node ≡ get_or order place node → take (place + 1) order ≡ take place order ++ node ∷ []
one_more order place node lt is = take_more order place node lt ∙ sym (ap (λ (m : ℕ). take place order ++ m ∷ []) is)

pub contains_one_more : (order : List ℕ) (place node : ℕ) → place < length order → node ≡ get_or order place node → ¬ Contains (take place order) node → IsOneMore (Contains (take place order)) (Contains (take (place + 1) order)) node
contains_one_more order place node lt is missing =
    let next = one_more order place node lt is in
    subst (λ (l : List ℕ). IsOneMore (Contains (take place order)) (Contains l) node) (sym next) (record {
      missing = missing;
      split = λ other is. Contains-push_cases (take place order) node other is;
      kept = λ other is. Contains-append_left (take place order) (node ∷ []) other is;
      now = Contains-push (take place order) node;
    })

-- a node of the order stands behind its sources
pub record StandsNext (count : ℕ) (seats : List Seat) (placed : List ℕ) (node : ℕ) (rest : List ℕ) : Type 0 where
  pub within : node < count
  pub missing : ¬ Contains placed node
  pub from : (d : Seat) → IsBehindThem placed (get_or seats node d)
  pub after : AreAfter count seats (placed ++ node ∷ []) rest

pub stands_next : (count : ℕ) (seats : List Seat) (order : List ℕ) (place node : ℕ) → place < length order → node ≡ get_or order place node → AreAfter count seats (take place order) (drop place order)
    → StandsNext count seats (take place order) node (drop (place + 1) order)
stands_next count seats order place node lt is after =
    let split : drop place order ≡ node ∷ drop (place + 1) order = drop_more order place node lt ∙ sym (ap (λ (m : ℕ). m ∷ drop (place + 1) order) is) in
    let here : AreAfter count seats (take place order) (node ∷ drop (place + 1) order) = subst (λ (l : List ℕ). AreAfter count seats (take place order) l) split after in
    record {
      within = here.0;
      missing = here.1;
      from = λ d. record { main = (here.2 d).0; aux = (here.2 d).1 };
      after = here.3;
    }

-- wires that begin at nodes of the scene
source_from : (placed : List ℕ) (count : ℕ) → ((node : ℕ) → Contains placed node → node < count) → (end : End) → IsFrom placed end → IsSource count end
source_from placed count among In is = is
source_from placed count among Out is = is
source_from placed count among (AtNode node) is = among node is

pub sources_from : (placed : List ℕ) (count : ℕ) → ((node : ℕ) → Contains placed node → node < count) → (ends : List End) → All (IsFrom placed) ends → All (IsSource count) ends
sources_from placed count among ends are = All-weaker (IsFrom placed) (IsSource count) (source_from placed count among) ends are

-- all processors have what was sent
pub all_sent : (values : List (List ℕ)) (boards : List (List Control)) → length values ≡ length boards → ((node : ℕ) → node < length values → get_or values node [] ≡ sent_of (board_at boards node)) → values ≡ map sent_of boards
all_sent values boards long each =
    ext_get_or [] values (map sent_of boards) (long ∙ sym (length-map boards sent_of)) (λ node inside.
    let within : node < length boards = omega (arith, long, inside) in
    each node inside ∙ sym (get_or-map sent_of boards node [] [] within))

-- the nodes of a block, whose order, classes and processors are these
module _ {P : Type 0} (class_of : ℕ → Class) (code : P → ℕ) (state : P → State) (values : P → List ℕ) (calls : P → ℕ) (phase : P → Phase) (setup : P → Setup) (order : List ℕ) (seats : List Seat) (span : Span) (ins : List ℤ) where
  -- those before a place of the order ran, the others are as they were, and no run changed what a processor is
  pub record AreInTurn (place : ℕ) (olds processors : List (Processing P)) (befores boards : List (Vec Control Global)) (firsts rows : List (Vec ℤ Global)) (room space : Space) : Type 0 where
    pub order_is : AreAfter (length seats) seats (take place order) (drop place order)
    pub among : (node : ℕ) → Contains (take place order) node → node < length seats
    pub ran : (channels c : ℕ) → length ins ≡ channels * span.frames
        → HaveRun (λ node. class_of (get_or (of_all code olds) node c)) channels span ins seats (boards_of befores) (of_all state olds) (take place order) (boards_of boards) (of_all state processors) (rows_of rows)
    pub sent : of_all values processors ≡ map sent_of (boards_of boards)
    pub calls_are : AreCalled (Contains (take place order)) (of_all calls olds) (of_all calls processors)
    pub codes : of_all code processors ≡ of_all code olds
    pub phases : of_all phase processors ≡ of_all phase olds
    pub setups : of_all setup processors ≡ of_all setup olds
    pub holders : holders_of processors ≡ holders_of olds
    pub nodes : length processors ≡ length seats
    pub boards_long : length boards ≡ length seats
    pub rows_long : length rows ≡ length seats
    pub has_room : (size params frames : ℕ) → HaveRoom size (rows_of firsts) → IsSpacious room size params frames → HaveRoom size (rows_of rows) × IsSpacious space size params frames

  pub in_turn_none : (processors : List (Processing P)) (boards : List (Vec Control Global)) (rows : List (Vec ℤ Global)) (space : Space)
      → AreAfter (length seats) seats [] order → length processors ≡ length seats → length boards ≡ length seats → length rows ≡ length seats
      → of_all values processors ≡ map sent_of (boards_of boards)
      → AreInTurn 0 processors processors boards boards rows rows space space
  in_turn_none processors boards rows space after nodes long rows_long sent = record {
    order_is = after;
    among = λ node is. nothing node is;
    ran = λ channels c same. none_ran (λ node. class_of (get_or (of_all code processors) node c)) channels span ins seats (boards_of boards) (of_all state processors) (rows_of rows);
    sent = sent;
    calls_are = called_none (Contains []) (of_all calls processors) (λ node is. nothing node is);
    codes = refl;
    phases = refl;
    setups = refl;
    holders = refl;
    nodes = nodes;
    boards_long = long;
    rows_long = rows_long;
    has_room = λ size params frames have is. (have, is);
  }

  -- what one node's run changes
  pub record HasTurned (node : ℕ) (seat : Seat) (old new : Processing P) (before after : Vec Control Global) (rows others : List (Vec ℤ Global)) : Type 0 where
    pub run : HasRun (class_of (code (value_of_opened (of_processing old)))) (setup (value_of_opened (of_processing old))).channels span ins (rows_of rows) seat node before.items after.items (state (value_of_opened (of_processing old))) (state (value_of_opened (of_processing new))) (row_at (rows_of others) node)
    pub rows_stay : (other : ℕ) → other ≢ node → row_at (rows_of others) other ≡ row_at (rows_of rows) other
    pub rows_long : length others ≡ length rows
    pub sent : values (value_of_opened (of_processing new)) ≡ sent_of after.items
    pub called : calls (value_of_opened (of_processing new)) ≡ raised (calls (value_of_opened (of_processing old)))
    pub code_is : code (value_of_opened (of_processing new)) ≡ code (value_of_opened (of_processing old))
    pub phase_is : phase (value_of_opened (of_processing new)) ≡ phase (value_of_opened (of_processing old))
    pub setup_is : setup (value_of_opened (of_processing new)) ≡ setup (value_of_opened (of_processing old))
    pub object : object_of_opened (of_processing new) ≡ object_of_opened (of_processing old)
    pub numbers : numbers_of_opened (of_processing new) ≡ numbers_of_opened (of_processing old)

  -- what a node's run needs
  pub record MayTurn (node : ℕ) (seat : Seat) (processor : Processing P) (board : List Control) (rows : List (Vec ℤ Global)) (space : Space) : Type 0 where
    pub within : node < length rows
    pub channels : 1 ≤ (setup (value_of_opened (of_processing processor))).channels
    pub size : length ins ≡ (setup (value_of_opened (of_processing processor))).channels * span.frames
    pub ready : (params : ℕ) × IsSpacious space (length ins) params span.frames
        × IsNodeReady (class_of (code (value_of_opened (of_processing processor)))) (phase (value_of_opened (of_processing processor))) (setup (value_of_opened (of_processing processor))) (values (value_of_opened (of_processing processor)))
        (setup (value_of_opened (of_processing processor))).channels params span node seat board
    pub main : All (IsSource (length rows)) seat.main.items
    pub aux : All (IsSource (length rows)) seat.aux.items
    pub room : HaveRoom (length ins) (rows_of rows)

  -- what all nodes are before the block
  pub record AreAtFirst (channels params : ℕ) (olds : List (Processing P)) (befores : List (Vec Control Global)) (firsts : List (Vec ℤ Global)) (space : Space) : Type 0 where
    pub sized : length ins ≡ channels * span.frames
    pub some : 1 ≤ channels
    pub spacious : IsSpacious space (length ins) params span.frames
    pub has_room : HaveRoom (length ins) (rows_of firsts)
    pub nodes : (node c : ℕ) (p : Phase) (s : Setup) (d : Seat) → node < length seats
        → IsNodeReady (class_of (get_or (of_all code olds) node c)) (get_or (of_all phase olds) node p) (get_or (of_all setup olds) node s) (get_or (of_all values olds) node []) channels params span node (get_or seats node d) (board_at (boards_of befores) node)

  pub first_sent : (channels params : ℕ) (olds : List (Processing P)) (befores : List (Vec Control Global)) (firsts : List (Vec ℤ Global)) (space : Space) → AreAtFirst channels params olds befores firsts space
      → length olds ≡ length seats → length befores ≡ length seats → of_all values olds ≡ map sent_of (boards_of befores)
  first_sent channels params olds befores firsts space first as_many long =
      let valued = length-map olds (λ (p : Processing P). values (value_of_opened (of_processing p))) in
      let phased = length-map olds (λ (p : Processing P). phase (value_of_opened (of_processing p))) in
      let set_up = length-map olds (λ (p : Processing P). setup (value_of_opened (of_processing p))) in
      let boarded = length-map befores (λ (b : Vec Control Global). b.items) in
      all_sent (of_all values olds) (boards_of befores) (omega (arith, valued, boarded, as_many, long)) (λ node inside.
      let within : node < length seats = omega (arith, inside, valued, as_many) in
      (first.nodes node 0 (one_of (of_all phase olds) node (omega (arith, within, phased, as_many))) (one_of (of_all setup olds) node (omega (arith, within, set_up, as_many))) (one_of seats node within) within).sent)

  -- the elements at a node's place
  pub record AreHere (node : ℕ) (processors : List (Processing P)) (boards : List (Vec Control Global)) (seat : Seat) (processor : Processing P) (board : Vec Control Global) : Type 0 where
    pub seat_is : seat ≡ get_or seats node seat
    pub processor_is : processor ≡ get_or processors node processor
    pub board_is : board ≡ get_or boards node board

  module _ (place : ℕ) (olds processors : List (Processing P)) (befores boards : List (Vec Control Global)) (firsts rows : List (Vec ℤ Global)) (room space : Space)
      (is : AreInTurn place olds processors befores boards firsts rows room space) (node : ℕ) (lt : place < length order) (placed : node ≡ get_or order place node)
      (seat : Seat) (processor : Processing P) (board : Vec Control Global) (here : AreHere node processors boards seat processor board) where
    next : StandsNext (length seats) seats (take place order) node (drop (place + 1) order)
    next = stands_next (length seats) seats order place node lt placed is.order_is

    inside : node < length processors
    inside = let within = next.within in let nodes = is.nodes in omega (arith, within, nodes)

    inside_boards : node < length boards
    inside_boards = let within = next.within in let long = is.boards_long in omega (arith, within, long)

    seat_at : (d : Seat) → seat ≡ get_or seats node d
    seat_at d = get_or_read seats node seat next.within here.seat_is d

    board_here : board_at (boards_of boards) node ≡ board.items
    board_here = map_here (λ (b : Vec Control Global). b.items) boards node board [] inside_boards here.board_is

    code_here : (c : ℕ) → code (value_of_opened (of_processing processor)) ≡ get_or (of_all code olds) node c
    code_here c = sym (map_here (λ (p : Processing P). code (value_of_opened (of_processing p))) processors node processor c inside here.processor_is) ∙ ap (λ (l : List ℕ). get_or l node c) is.codes

    setup_here : setup (value_of_opened (of_processing processor)) ≡ get_or (of_all setup olds) node (setup (value_of_opened (of_processing processor)))
    setup_here = sym (map_here (λ (p : Processing P). setup (value_of_opened (of_processing p))) processors node processor (setup (value_of_opened (of_processing processor))) inside here.processor_is) ∙ ap (λ (l : List Setup). get_or l node (setup (value_of_opened (of_processing processor)))) is.setups

    phase_here : phase (value_of_opened (of_processing processor)) ≡ get_or (of_all phase olds) node (phase (value_of_opened (of_processing processor)))
    phase_here = sym (map_here (λ (p : Processing P). phase (value_of_opened (of_processing p))) processors node processor (phase (value_of_opened (of_processing processor))) inside here.processor_is) ∙ ap (λ (l : List Phase). get_or l node (phase (value_of_opened (of_processing processor)))) is.phases

    values_here : values (value_of_opened (of_processing processor)) ≡ sent_of board.items
    values_here =
        sym (map_here (λ (p : Processing P). values (value_of_opened (of_processing p))) processors node processor [] inside here.processor_is)
        ∙ ap (λ (l : List (List ℕ)). get_or l node []) is.sent
        ∙ get_or-map sent_of (boards_of boards) node [] [] (omega (arith, inside_boards, length-map boards (λ (b : Vec Control Global). b.items)))
        ∙ ap sent_of board_here

    -- before its run it is as it was
    module _ (channels params : ℕ) (first : AreAtFirst channels params olds befores firsts room) where
      turn_ready : IsNodeReady (class_of (code (value_of_opened (of_processing processor)))) (phase (value_of_opened (of_processing processor))) (setup (value_of_opened (of_processing processor))) (values (value_of_opened (of_processing processor)))
          (setup (value_of_opened (of_processing processor))).channels params span node seat board.items
      turn_ready =
          let value = value_of_opened (of_processing processor) in
          let ready = first.nodes node 0 (phase value) (setup value) seat next.within in
          let same : board_at (boards_of befores) node ≡ board.items = sym ((is.ran channels 0 first.sized).boards_are node next.missing) ∙ board_here in
          ready_in_words params span node _ _ _ _ _ _ _ _ channels _ _ _ _ (sym (ap class_of (code_here 0))) (sym phase_here) (sym setup_here)
          (ready.sent ∙ ap sent_of same ∙ sym values_here) (sym (seat_at seat)) same ready

      -- for as many channels as its block has
      first_channels : (setup (value_of_opened (of_processing processor))).channels ≡ channels
      first_channels =
          let value = value_of_opened (of_processing processor) in
          ap (λ (s : Setup). s.channels) setup_here ∙ (first.nodes node 0 (phase value) (setup value) seat next.within).channels_are

      pub turn_channels : (two : ℕ) → length ins ≡ two * span.frames → (setup (value_of_opened (of_processing processor))).channels ≡ two
      turn_channels two also =
          let some = span.some in
          first_channels ∙ eq_of_mul-eq-mul_right span.frames (omega (arith, some)) channels two (sym first.sized ∙ also)

      among_rows : (other : ℕ) → Contains (take place order) other → other < length rows
      among_rows other in_order = let within = is.among other in_order in let long = is.rows_long in omega (arith, within, long)

      -- So it may run, and its wires begin at nodes that are there.
      pub may_turn : MayTurn node seat processor board.items rows space
      may_turn =
          let now = is.has_room (length ins) params span.frames first.has_room first.spacious in
          let from = next.from seat in
          record {
            within = let within = next.within in let long = is.rows_long in omega (arith, within, long);
            channels = subst (λ (m : ℕ). 1 ≤ m) (sym first_channels) first.some;
            size = first.sized ∙ ap (λ (m : ℕ). m * span.frames) (sym first_channels);
            ready = (params, now.1, turn_ready);
            main = subst (λ (x : Seat). All (IsSource (length rows)) x.main.items) (sym (seat_at seat)) (sources_from (take place order) (length rows) among_rows (get_or seats node seat).main.items from.main);
            aux = subst (λ (x : Seat). All (IsSource (length rows)) x.aux.items) (sym (seat_at seat)) (sources_from (take place order) (length rows) among_rows (get_or seats node seat).aux.items from.aux);
            room = now.0;
          }

    module _ (new : Processing P) (after : Vec Control Global) (others : List (Vec ℤ Global)) (spaced : Space) (turned : HasTurned node seat processor new board after rows others)
        (has_room : (size params frames : ℕ) → HaveRoom size (rows_of rows) → IsSpacious space size params frames → HaveRoom size (rows_of others) × IsSpacious spaced size params frames) where
      ran_next : (channels c : ℕ) → (setup (value_of_opened (of_processing processor))).channels ≡ channels
          → IsNext (λ node. class_of (get_or (of_all code olds) node c)) channels span ins seats (boards_of befores) (of_all state olds) node (boards_of boards) (boards_of (set boards node after)) (of_all state processors) (of_all state (set processors node new)) (rows_of rows) (rows_of others)
      ran_next channels c same = record {
        run = λ d.
            run_in_words span ins (rows_of rows) node (row_at (rows_of others) node) _ _ _ _ _ _ _ _ _ _ _ _ _ _ (ap class_of (code_here c)) same (seat_at d) (sym board_here)
            (sym (map_put (λ (b : Vec Control Global). b.items) boards node after [] inside_boards))
            (sym (map_here (λ (p : Processing P). state (value_of_opened (of_processing p))) processors node processor [] inside here.processor_is))
            (sym (map_put (λ (p : Processing P). state (value_of_opened (of_processing p))) processors node new [] inside))
            turned.run;
        boards_stay = λ other apart. map_apart (λ (b : Vec Control Global). b.items) boards node other after [] apart;
        states_stay = λ other apart. map_apart (λ (p : Processing P). state (value_of_opened (of_processing p))) processors node other new [] apart;
        rows_stay = turned.rows_stay;
      }

      -- Then one more ran.
      pub in_turn_more : ((channels : ℕ) → length ins ≡ channels * span.frames → (setup (value_of_opened (of_processing processor))).channels ≡ channels)
          → AreInTurn (place + 1) olds (set processors node new) befores (set boards node after) firsts others room spaced
      in_turn_more channelled =
          let more = one_more order place node lt placed in
          record {
            order_is = subst (λ (l : List ℕ). AreAfter (length seats) seats l (drop (place + 1) order)) (sym more) next.after;
            among = λ other out. elim (Contains-push_cases (take place order) node other (subst (λ (l : List ℕ). Contains l other) more out)) [
              | inl old ↦ is.among other old
              | inr same ↦ subst (λ (m : ℕ). m < length seats) same next.within
            ];
            ran = λ channels c sized.
                subst (λ (l : List ℕ). HaveRun (λ node. class_of (get_or (of_all code olds) node c)) channels span ins seats (boards_of befores) (of_all state olds) l (boards_of (set boards node after)) (of_all state (set processors node new)) (rows_of others)) (sym more)
                (one_more_ran (λ node. class_of (get_or (of_all code olds) node c)) channels span ins seats (boards_of befores) (of_all state olds) (take place order) node (boards_of boards) (boards_of (set boards node after))
                (of_all state processors) (of_all state (set processors node new)) (rows_of rows) (rows_of others) (is.ran channels c sized) next.missing next.from (ran_next channels c (channelled channels sized)));
            sent =
                maps_both (λ (p : Processing P). values (value_of_opened (of_processing p))) sent_of processors (boards_of boards) node new after.items is.sent turned.sent
                ∙ sym (ap (λ (l : List (List Control)). map sent_of l) (map-set (λ (b : Vec Control Global). b.items) boards node after));
            calls_are =
                let counts = λ (p : Processing P). calls (value_of_opened (of_processing p)) in
                let was : calls (value_of_opened (of_processing processor)) ≡ get_or (of_all calls processors) node 0 = sym (map_here counts processors node processor 0 inside here.processor_is) in
                let long = is.calls_are.long in
                subst (λ (l : List ℕ). AreCalled (Contains (take (place + 1) order)) (of_all calls olds) l) (sym (map-set counts processors node new))
                (called_more (Contains (take place order)) (Contains (take (place + 1) order)) (of_all calls olds) (of_all calls processors) node (calls (value_of_opened (of_processing new))) (contains_one_more order place node lt placed next.missing)
                (omega (arith, long, inside, length-map processors counts)) (turned.called ∙ ap raised was) is.calls_are);
            codes = map_stays (λ (p : Processing P). code (value_of_opened (of_processing p))) processors node processor new inside here.processor_is turned.code_is ∙ is.codes;
            phases = map_stays (λ (p : Processing P). phase (value_of_opened (of_processing p))) processors node processor new inside here.processor_is turned.phase_is ∙ is.phases;
            setups = map_stays (λ (p : Processing P). setup (value_of_opened (of_processing p))) processors node processor new inside here.processor_is turned.setup_is ∙ is.setups;
            holders = map_stays (λ (p : Processing P). (object_of_opened (of_processing p), numbers_of_opened (of_processing p))) processors node processor new inside here.processor_is (let object = turned.object in let numbers = turned.numbers in cc) ∙ is.holders;
            nodes = length-set processors node new ∙ is.nodes;
            boards_long = length-set boards node after ∙ is.boards_long;
            rows_long = turned.rows_long ∙ is.rows_long;
            has_room = λ size params frames have room_is.
                let now = is.has_room size params frames have room_is in
                has_room size params frames now.0 now.1;
          }

  -- Behind the last all ran.
  module _ (place : ℕ) (olds processors : List (Processing P)) (befores boards : List (Vec Control Global)) (firsts rows : List (Vec ℤ Global)) (room space : Space)
      (is : AreInTurn place olds processors befores boards firsts rows room space) (end : length order ≤ place) where
    all_placed : (node : ℕ) → node < length seats → Contains (take place order) node
    all_placed = subst (λ (l : List ℕ). AreAfter (length seats) seats (take place order) l) (drop_all place order end) is.order_is

    pub in_turn_run : (channels node c : ℕ) (d : Seat) → length ins ≡ channels * span.frames → node < length seats
        → HasRun (class_of (get_or (of_all code olds) node c)) channels span ins (rows_of rows) (get_or seats node d) node (board_at (boards_of befores) node) (board_at (boards_of boards) node)
        (get_or (of_all state olds) node []) (get_or (of_all state processors) node []) (row_at (rows_of rows) node)
    in_turn_run channels node c d sized within = (is.ran channels c sized).run node d (all_placed node within)

    pub in_turn_calls : length olds ≡ length seats → of_all calls processors ≡ map raised (of_all calls olds)
    in_turn_calls long =
        called_all (Contains (take place order)) (of_all calls olds) (of_all calls processors) is.calls_are (λ node within.
        all_placed node (omega (arith, within, long, length-map olds (λ (p : Processing P). calls (value_of_opened (of_processing p))))))

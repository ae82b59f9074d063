-- Parameters that took entries.
use Rattle.std.proofs.Common.{◌≡◌, ◌≢◌, ◌∙◌, inl, inr, ℕ, suc, ◌+◌, ◌^◌, ◌<◌, ◌≤◌, Bool, false, cond, List, [], ◌∷◌, ◌++◌, length, get_or, set, map, Option, Some, None, refl, sym, ap, subst, arith}
use Rattle.std.specs.Prelude.{All, ◌==◌, ◌&&◌}
use Rattle.std.proofs.lemmas.Bool.{cases_eq, ne_eqb}
use Rattle.std.proofs.lemmas.List.{get_or_default, length-map, length-set, get_or-set_same, get_or-set_other}
use Rattle.vh_component.specs.declared.states.Processing.{Processing}
use Rattle.vh_component.specs.States.{of_processing}
use Rattle.vh_counted.specs.Held.{value_of_opened}
use Rattle.vh_lane.specs.declared.lane.Lane.{Lane}
use Rattle.vh_params.specs.declared.command.Command.{Command}
use Rattle.vh_params.specs.declared.command.Command.TheVariants.{Begin, Perform, End, Tell}
use Rattle.vh_plugin.specs.Class.{Param, Class}
use Rattle.vh_journal.specs.declared.entry.Entry.{Entry}
use Rattle.vh_meaning.specs.Edits.{Edit, Began, Performed, Ended, edit_by, edit_in}
use Rattle.vh_meaning.specs.Scene.{Scene}
use Rattle.vh_meaning.specs.Stands.{Touch}
use Rattle.vh_meaning.specs.Steps.{touched_by, touches_through}
use Rattle.vh_engine.specs.declared.control.Control.{Control}
use Rattle.vh_engine.specs.Controls.{touch_of, line_at, line_of, IsPlaced, touch_through, IsControl}
use Rattle.vh_engine.specs.Nodes.{AreOf, sent_of}
use Rattle.vh_engine.specs.Staged.{of_all, board_at}
use Rattle.vh_engine.specs.Told.{IsTaken, AreTaken, HaveTaken, node_of, AreReady, IsStage}
use Rattle.vh_engine.proofs.Rooms.{control_with_less}
use Rattle.vh_engine.proofs.Taking.{touches_of_board, touches_taken}

-- something of each processor
pub long_of_all : {P A : Type 0} (meant : P → A) (processors : List (Processing P)) → length (of_all meant processors) ≡ length processors
long_of_all {P} meant processors = length-map processors (λ (x : Processing P). meant (value_of_opened (of_processing x)))

-- entries are taken one list after the other
touch_through_append : (line : Option (ℕ → ℕ)) (steps node id : ℕ) (head rest : List Entry) (touch : Touch)
    → touch_through line steps node id (head ++ rest) touch ≡ touch_through line steps node id rest (touch_through line steps node id head touch)
touch_through_append line steps node id [] rest touch = refl
touch_through_append line steps node id (entry ∷ head) rest touch = touch_through_append line steps node id head rest (touched_by line steps (edit_in node id entry) touch)

taken_more : (lanes : List (ℕ × ℕ × Lane)) (node : ℕ) (head rest : List Entry) (one other third : Control) → IsTaken lanes node head one other → IsTaken lanes node rest other third → IsTaken lanes node (head ++ rest) one third
taken_more lanes node head rest one other third first second = record {
  touch =
      second.touch
      ∙ ap (λ (lane : Option ℕ). touch_through (line_at lanes lane) other.steps node other.id rest (touch_of other)) first.same.lane
      ∙ ap (λ (n : ℕ). touch_through (line_of lanes one) n node other.id rest (touch_of other)) first.same.steps
      ∙ ap (λ (n : ℕ). touch_through (line_of lanes one) one.steps node n rest (touch_of other)) first.same.id
      ∙ ap (touch_through (line_of lanes one) one.steps node one.id rest) first.touch
      ∙ sym (touch_through_append (line_of lanes one) one.steps node one.id head rest (touch_of one));
  same = record {
    id = second.same.id ∙ first.same.id;
    steps = second.same.steps ∙ first.same.steps;
    shown = second.same.shown ∙ first.same.shown;
    lane = second.same.lane ∙ first.same.lane;
  };
  sent = second.sent ∙ first.sent;
}

board_taken_more : (lanes : List (ℕ × ℕ × Lane)) (node : ℕ) (head rest : List Entry) (one other third : List Control) → AreTaken lanes node head one other → AreTaken lanes node rest other third → AreTaken lanes node (head ++ rest) one third
board_taken_more lanes node head rest one other third first second = record {
  long = second.long ∙ first.long;
  each = λ k d lt. let long = first.long in taken_more lanes node head rest _ _ _ (first.each k d lt) (second.each k d (omega (arith, long, lt)));
}

pub boards_taken_more : (lanes : List (ℕ × ℕ × Lane)) (head rest : List Entry) (one other third : List (List Control)) → HaveTaken lanes head one other → HaveTaken lanes rest other third → HaveTaken lanes (head ++ rest) one third
boards_taken_more lanes head rest one other third first second = record {
  long = second.long ∙ first.long;
  each = λ node lt. let long = first.long in board_taken_more lanes node head rest _ _ _ (first.each node lt) (second.each node (omega (arith, long, lt)));
}

pub none_taken : (lanes : List (ℕ × ℕ × Lane)) (boards : List (List Control)) → HaveTaken lanes [] boards boards
none_taken lanes boards = record {
  long = refl;
  each = λ node lt. record {
    long = refl;
    each = λ k d within. record { touch = refl; same = record { id = refl; steps = refl; shown = refl; lane = refl }; sent = refl };
  };
}

-- an entry that is on none of a node's parameters
board_elsewhere : (lanes : List (ℕ × ℕ × Lane)) (node : ℕ) (entry : Entry) (board : List Control) → ((id : ℕ) → edit_in node id entry ≡ None) → AreTaken lanes node (entry ∷ []) board board
board_elsewhere lanes node entry board none = record {
  long = refl;
  each = λ k d lt. let control : Control = get_or board k d in record {
    touch = ap (λ (edit : Option Edit). touched_by (line_of lanes control) control.steps edit (touch_of control)) (sym (none control.id));
    same = record { id = refl; steps = refl; shown = refl; lane = refl };
    sent = refl;
  };
}

edit_of_other : (node id sample : ℕ) (command : Command) → node_of command ≢ node → edit_by node id sample command ≡ None
edit_of_other node id sample (Begin n i) apart = ap (λ (b : Bool). cond (b && (i == id)) (Some (Began sample)) None) (ne_eqb n node apart)
edit_of_other node id sample (Perform n i value) apart = ap (λ (b : Bool). cond (b && (i == id)) (Some (Performed value)) None) (ne_eqb n node apart)
edit_of_other node id sample (End n i) apart = ap (λ (b : Bool). cond (b && (i == id)) (Some Ended) None) (ne_eqb n node apart)
edit_of_other node id sample (Tell n words) apart = refl

-- a message is on no parameter
pub message_taken : (lanes : List (ℕ × ℕ × Lane)) (entry : Entry) (boards : List (List Control)) → ((node id : ℕ) → edit_in node id entry ≡ None) → HaveTaken lanes (entry ∷ []) boards boards
message_taken lanes entry boards none = record { long = refl; each = λ node lt. board_elsewhere lanes node entry (board_at boards node) (none node) }

-- an edit is on a parameter of its node
pub edit_taken : (lanes : List (ℕ × ℕ × Lane)) (entry : Entry) (boards : List (List Control)) (node : ℕ) (board : List Control) → node_of entry.command ≡ node → node < length boards → AreTaken lanes node (entry ∷ []) (board_at boards node) board
    → HaveTaken lanes (entry ∷ []) boards (set boards node board)
edit_taken lanes entry boards node board on within taken = record {
  long = length-set boards node board;
  each = λ other lt. elim (cases_eq other node) [
    | inl same ↦ subst (λ (m : ℕ). AreTaken lanes m (entry ∷ []) (board_at boards m) (board_at (set boards node board) m)) (sym same)
        (subst (λ (new : List Control). AreTaken lanes node (entry ∷ []) (board_at boards node) new) (sym (get_or-set_same boards node board [] within)) taken)
    | inr apart ↦ subst (λ (new : List Control). AreTaken lanes other (entry ∷ []) (board_at boards other) new) (sym (get_or-set_other boards node other board [] apart))
        (board_elsewhere lanes other entry (board_at boards other) (λ id. edit_of_other other id entry.sample entry.command (λ same. apart (sym (sym on ∙ same)))))
  ];
}

-- so many of a node's parameters took an entry
pub record AreTaking (lanes : List (ℕ × ℕ × Lane)) (node : ℕ) (entry : Entry) (old now : List Control) (place : ℕ) : Type 0 where
  pub long : length now ≡ length old
  pub taken : (k : ℕ) (d : Control) → k < place → k < length old → IsTaken lanes node (entry ∷ []) (get_or old k d) (get_or now k d)
  pub held : (k : ℕ) (d : Control) → k < place → k < length old → (get_or now k d).held ≤ 2 ^ 24
  pub rest : (k : ℕ) (d : Control) → place ≤ k → get_or now k d ≡ get_or old k d

pub taking_next : (lanes : List (ℕ × ℕ × Lane)) (node : ℕ) (entry : Entry) (old now : List Control) (place : ℕ) (e new : Control) → AreTaking lanes node entry old now place → place < length old
    → IsTaken lanes node (entry ∷ []) (get_or now place e) new → new.held ≤ 2 ^ 24 → AreTaking lanes node entry old (set now place new) (place + 1)
taking_next lanes node entry old now place e new is within taken held =
    let long = is.long in
    let inside : place < length now = omega (arith, long, within) in
    record {
      long = length-set now place new ∙ is.long;
      taken = λ k d before lt. elim (cases_eq k place) [
        | inl same ↦ subst (λ (m : ℕ). IsTaken lanes node (entry ∷ []) (get_or old m d) (get_or (set now place new) m d)) (sym same)
            (subst (λ (c : Control). IsTaken lanes node (entry ∷ []) (get_or old place d) c) (sym (get_or-set_same now place new d inside))
            (subst (λ (c : Control). IsTaken lanes node (entry ∷ []) c new) (get_or_default now place e d inside ∙ is.rest place d (omega arith)) taken))
        | inr apart ↦ subst (λ (c : Control). IsTaken lanes node (entry ∷ []) (get_or old k d) c) (sym (get_or-set_other now place k new d apart)) (is.taken k d (omega (arith, before, apart)) lt)
      ];
      held = λ k d before lt. elim (cases_eq k place) [
        | inl same ↦ subst (λ (m : ℕ). (get_or (set now place new) m d).held ≤ 2 ^ 24) (sym same) (subst (λ (c : Control). c.held ≤ 2 ^ 24) (sym (get_or-set_same now place new d inside)) held)
        | inr apart ↦ subst (λ (c : Control). c.held ≤ 2 ^ 24) (sym (get_or-set_other now place k new d apart)) (is.held k d (omega (arith, before, apart)) lt)
      ];
      rest = λ k d after. get_or-set_other now place k new d (λ same. omega (arith, after, same)) ∙ is.rest k d (omega (arith, after));
    }

-- lists that a function can't tell apart
map_same : {A B : Type 0} (f : A → B) (d : A) (xs ys : List A) → length ys ≡ length xs → ((k : ℕ) → k < length xs → f (get_or ys k d) ≡ f (get_or xs k d)) → map f ys ≡ map f xs
map_same f d [] [] long same = refl
map_same f d [] (y ∷ ys) long same = absurd (omega (arith, long))
map_same f d (x ∷ xs) [] long same = absurd (omega (arith, long))
map_same {A} {B} f d (x ∷ xs) (y ∷ ys) long same =
    ap (λ (z : B). z ∷ map f ys) (same 0 (omega arith)) ∙ ap (λ (l : List B). f x ∷ l) (map_same f d xs ys (omega (arith, long)) (λ k lt. same (suc k) (omega (arith, lt))))

zeros : Control
zeros = record { id = 0; steps = 0; shown = false; lane = None; held = 0; begun = 0; ended = 0; sent = 0 }

module _ (lanes : List (ℕ × ℕ × Lane)) (node : ℕ) (entries : List Entry) (old new : List Control) (taken : AreTaken lanes node entries old new) where
  -- they are those of the class that they were of
  pub of_taken : (params : List Param) → AreOf params old → AreOf params new
  of_taken params of = record {
    ids = map_same (λ (c : Control). c.id) zeros old new taken.long (λ k lt. (taken.each k zeros lt).same.id) ∙ of.ids;
    steps = map_same (λ (c : Control). c.steps) zeros old new taken.long (λ k lt. (taken.each k zeros lt).same.steps) ∙ of.steps;
    shown = map_same (λ (c : Control). c.shown) zeros old new taken.long (λ k lt. (taken.each k zeros lt).same.shown) ∙ of.shown;
  }

  -- and the processor has what it had
  pub sent_taken : sent_of new ≡ sent_of old
  sent_taken = map_same (λ (c : Control). c.sent) zeros old new taken.long (λ k lt. (taken.each k zeros lt).sent)

pub all_sent : (lanes : List (ℕ × ℕ × Lane)) (entries : List Entry) (old new : List (List Control)) → HaveTaken lanes entries old new → map sent_of new ≡ map sent_of old
all_sent lanes entries old new taken = map_same sent_of [] old new taken.long (λ node lt. sent_taken lanes node entries (board_at old node) (board_at new node) (taken.each node lt))

-- the stage stays
pub stage_taken : (class_of : ℕ → Class) (codes : List ℕ) (scene : Scene) (lanes : List (ℕ × ℕ × Lane)) (entries : List Entry) (old new : List (List Control)) → HaveTaken lanes entries old new
    → IsStage class_of codes scene lanes old → IsStage class_of codes scene lanes new
stage_taken class_of codes scene lanes entries old new taken stage =
    let are = stage.boards_are in
    let wide = are.long in
    record {
      classes = stage.classes;
      codes_are = stage.codes_are;
      boards_are = record {
        long = taken.long ∙ are.long;
        each = λ node within.
            let here = taken.each node (omega (arith, wide, within)) in
            let board = are.each node within in
            let long = here.long in
            record {
              of = of_taken lanes node entries (board_at old node) (board_at new node) here _ board.of;
              lines = λ k d e lt. let inside : k < length (board_at old node) = omega (arith, long, lt) in ap (line_at lanes) (here.each k d inside).same.lane ∙ board.lines k d e inside;
            };
      };
    }

-- an entry counts one gesture at most
counts_one : (line : Option (ℕ → ℕ)) (steps : ℕ) (edit : Option Edit) (touch : Touch) → ((touched_by line steps edit touch).begun ≤ touch.begun + 1) × ((touched_by line steps edit touch).ended ≤ touch.ended + 1)
counts_one line steps None touch = (omega arith, omega arith)
counts_one line steps (Some (Performed value)) touch = (omega arith, omega arith)
counts_one line steps (Some Ended) touch = (omega arith, omega arith)
counts_one None steps (Some (Began sample)) touch = (omega arith, omega arith)
counts_one (Some lane) steps (Some (Began sample)) touch = (omega arith, omega arith)

control_taken : (lanes : List (ℕ × ℕ × Lane)) (node : ℕ) (entry : Entry) (room : ℕ) (old new : Control) → IsTaken lanes node (entry ∷ []) old new → new.held ≤ 2 ^ 24 → IsControl (length lanes) (1 + room) old → IsControl (length lanes) room new
control_taken lanes node entry room old new taken held is =
    let counts = counts_one (line_of lanes old) old.steps (edit_in node old.id entry) (touch_of old) in
    let begins : new.begun ≡ (touched_by (line_of lanes old) old.steps (edit_in node old.id entry) (touch_of old)).begun = ap (λ (t : Touch). t.begun) taken.touch in
    let ends : new.ended ≡ (touched_by (line_of lanes old) old.steps (edit_in node old.id entry) (touch_of old)).ended = ap (λ (t : Touch). t.ended) taken.touch in
    let begun = is.begun in
    let ended = is.ended in
    record {
      steps = subst (λ (n : ℕ). n ≤ 4095) (sym taken.same.steps) is.steps;
      lane = subst (IsPlaced (length lanes)) (sym taken.same.lane) is.lane;
      held = held;
      sent = subst (λ (n : ℕ). n ≤ 2 ^ 24) (sym taken.sent) is.sent;
      begun = omega (arith, counts.0, begins, begun);
      ended = omega (arith, counts.1, ends, ended);
    }

-- with room for fewer entries
pub ready_with_less : (class_of : ℕ → Class) (codes : List ℕ) (lanes more less most : ℕ) (boards : List (List Control)) → less ≤ more → AreReady class_of codes lanes more most boards → AreReady class_of codes lanes less most boards
ready_with_less class_of codes lanes more less most boards le ready = record {
  long = ready.long;
  of = ready.of;
  each = λ node within k d lt. control_with_less lanes more less _ le (ready.each node within k d lt);
  few = ready.few;
}

-- no value that is held is above 1.0
abbrev pub AreHeld : List (List Control) → Type 0
AreHeld boards = (node : ℕ) → node < length boards → All (λ control. control.held ≤ 2 ^ 24) (board_at boards node)

pub held_before : (class_of : ℕ → Class) (codes : List ℕ) (lanes room most : ℕ) (boards : List (List Control)) → AreReady class_of codes lanes room most boards → AreHeld boards
held_before class_of codes lanes room most boards ready node within k d lt = let long = ready.long in (ready.each node (omega (arith, long, within)) k d lt).held

pub held_set : (boards : List (List Control)) (node : ℕ) (board : List Control) → AreHeld boards → All (λ control. control.held ≤ 2 ^ 24) board → AreHeld (set boards node board)
held_set boards node board are held other within = elim (cases_eq other node) [
  | inl same ↦
      let inside : node < length boards = omega (arith, same, within, length-set boards node board) in
      subst (λ (m : ℕ). All (λ control. control.held ≤ 2 ^ 24) (board_at (set boards node board) m)) (sym same) (subst (λ (l : List Control). All (λ control. control.held ≤ 2 ^ 24) l) (sym (get_or-set_same boards node board [] inside)) held)
  | inr apart ↦ subst (λ (l : List Control). All (λ control. control.held ≤ 2 ^ 24) l) (sym (get_or-set_other boards node other board [] apart)) (are other (omega (arith, within, length-set boards node board)))
]

-- the nodes stay ready, with room for one entry less
pub ready_taken : (class_of : ℕ → Class) (codes : List ℕ) (lanes : List (ℕ × ℕ × Lane)) (entry : Entry) (room most : ℕ) (old new : List (List Control)) → HaveTaken lanes (entry ∷ []) old new → AreHeld new
    → AreReady class_of codes (length lanes) (1 + room) most old → AreReady class_of codes (length lanes) room most new
ready_taken class_of codes lanes entry room most old new taken held ready =
    let wide = ready.long in
    let same = taken.long in
    record {
      long = taken.long ∙ ready.long;
      of = λ node d within. of_taken lanes node (entry ∷ []) (board_at old node) (board_at new node) (taken.each node (omega (arith, wide, within))) _ (ready.of node d within);
      each = λ node within k d lt.
          let here = taken.each node (omega (arith, wide, within)) in
          let long = here.long in
          let inside : k < length (board_at old node) = omega (arith, long, lt) in
          control_taken lanes node entry room _ _ (here.each k d inside) (held node (omega (arith, wide, same, within)) k d lt) (ready.each node within k d inside);
      few = λ node within. let long = (taken.each node (omega (arith, wide, within))).long in let few = ready.few node within in omega (arith, long, few);
    }

-- what is kept of a node's parameters is what the entries leave of it
pub touches_left : (class_of : ℕ → Class) (codes : List ℕ) (scene : Scene) (lanes : List (ℕ × ℕ × Lane)) (entries : List Entry) (old new : List (List Control)) → HaveTaken lanes entries old new → IsStage class_of codes scene lanes old
    → (node : ℕ) → node < length scene.codes → touches_through scene entries node (scene.class_of (get_or scene.codes node 0)).params (map touch_of (board_at old node)) ≡ map touch_of (board_at new node)
touches_left class_of codes scene lanes entries old new taken stage node within =
    let wide = stage.boards_are.long in
    let here = taken.each node (omega (arith, wide, within)) in
    let board = stage.boards_are.each node within in
    touches_of_board scene lanes node entries _ (board_at old node) board.of board.lines
    ∙ sym (touches_taken lanes node entries (board_at old node) (board_at new node) here.long (λ k d lt. (here.each k d lt).touch))

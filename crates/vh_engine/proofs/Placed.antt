-- Nodes that ran, one after the other.
use Rattle.std.proofs.Common.{◌≡◌, ◌≢◌, ◌∙◌, inl, inr, ℕ, List, [], ◌∷◌, ◌++◌, get_or, ℤ, refl, sym, ap, subst, arith}
use Rattle.std.specs.Prelude.{All, Contains}
use Rattle.std.proofs.lemmas.List.Elements.{All-head, All-tail, All-weaker, Contains-append_left, Contains-push, Contains-push_cases}
use Rattle.vh_num.specs.Frames.{Frame, frame_at}
use Rattle.vh_plugin.specs.Class.{Class, State}
use Rattle.vh_session.specs.declared.wire.End.{End}
use Rattle.vh_session.specs.declared.wire.End.TheVariants.{In, Out, Node as AtNode}
use Rattle.vh_meaning.specs.Mix.{mix, mix_of_some}
use Rattle.vh_engine.specs.declared.control.Control.{Control}
use Rattle.vh_engine.specs.declared.seat.Seat.{Seat}
use Rattle.vh_engine.specs.declared.span.Span.{Span}
use Rattle.vh_engine.specs.Buses.{row_at, reaching}
use Rattle.vh_engine.specs.Nodes.{values_in, main_of, aux_of}
use Rattle.vh_engine.specs.Runs.{HasRun, IsFrom}
use Rattle.vh_engine.specs.Staged.{board_at}
use Rattle.vh_engine.proofs.Alike.{run_alike}

-- rows are the same at these nodes
abbrev pub AreSameAt : List ℕ → List (List ℤ) → List (List ℤ) → Type 0
AreSameAt placed rows others = (node : ℕ) → Contains placed node → row_at rows node ≡ row_at others node

-- then what reaches a bus from them is the same
pub reaching_same : (channels n : ℕ) (ins : List ℤ) (rows others : List (List ℤ)) (placed : List ℕ) → AreSameAt placed rows others → (ends : List End) → All (IsFrom placed) ends → (place : ℕ)
    → reaching channels n ins rows ends place ≡ reaching channels n ins others ends place
reaching_same channels n ins rows others placed same [] from place = refl
reaching_same channels n ins rows others placed same (In ∷ ends) from place =
    ap (λ (frames : List Frame). frame_at channels n ins place ∷ frames) (reaching_same channels n ins rows others placed same ends (All-tail (IsFrom placed) In ends from) place)
reaching_same channels n ins rows others placed same (Out ∷ ends) from place = absurd (All-head (IsFrom placed) Out ends from)
reaching_same channels n ins rows others placed same (AtNode node ∷ ends) from place =
    ap (λ (row : List ℤ). frame_at channels n row place ∷ reaching channels n ins rows ends place) (same node (All-head (IsFrom placed) (AtNode node) ends from))
    ∙ ap (λ (frames : List Frame). frame_at channels n (row_at others node) place ∷ frames) (reaching_same channels n ins rows others placed same ends (All-tail (IsFrom placed) (AtNode node) ends from) place)

-- all of a seat's wires begin at the input or at these nodes
pub record IsBehindThem (placed : List ℕ) (seat : Seat) : Type 0 where
  pub main : All (IsFrom placed) seat.main.items
  pub aux : All (IsFrom placed) seat.aux.items

-- and so is what a node came to
pub has_run_same : (class : Class) (channels : ℕ) (span : Span) (ins : List ℤ) (rows others : List (List ℤ)) (placed : List ℕ) (seat : Seat) (node : ℕ) (old new : List Control) (before after : State) (samples : List ℤ)
    → AreSameAt placed rows others → IsBehindThem placed seat
    → HasRun class channels span ins rows seat node old new before after samples → HasRun class channels span ins others seat node old new before after samples
has_run_same class channels span ins rows others placed seat node old new before after samples same from is = record {
  run = run_alike class before channels span.frames (values_in span node old) (main_of channels span.frames ins rows seat) (main_of channels span.frames ins others seat) (aux_of channels span.frames ins rows seat) (aux_of channels span.frames ins others seat)
      (λ place lt. ap (mix channels) (reaching_same channels span.frames ins rows others placed same seat.main.items from.main place))
      (λ place lt. ap (mix_of_some channels) (reaching_same channels span.frames ins rows others placed same seat.aux.items from.aux place))
      after samples samples (λ place lt. refl) is.run;
  behind = is.behind;
}

from_more : (placed : List ℕ) (node : ℕ) (end : End) → IsFrom placed end → IsFrom (placed ++ node ∷ []) end
from_more placed node In is = is
from_more placed node Out is = is
from_more placed node (AtNode source) is = Contains-append_left placed (node ∷ []) source is

behind_more : (placed : List ℕ) (node : ℕ) (seat : Seat) → IsBehindThem placed seat → IsBehindThem (placed ++ node ∷ []) seat
behind_more placed node seat is = record {
  main = All-weaker (IsFrom placed) (IsFrom (placed ++ node ∷ [])) (from_more placed node) seat.main.items is.main;
  aux = All-weaker (IsFrom placed) (IsFrom (placed ++ node ∷ [])) (from_more placed node) seat.aux.items is.aux;
}

-- a block over the nodes of these classes at these seats
module _ (class_of : ℕ → Class) (channels : ℕ) (span : Span) (ins : List ℤ) (seats : List Seat) (olds : List (List Control)) (befores : List State) where
  -- those that are placed ran, behind their sources, and the others are as they were
  pub record HaveRun (placed : List ℕ) (boards : List (List Control)) (states : List State) (rows : List (List ℤ)) : Type 0 where
    pub run : (node : ℕ) (d : Seat) → Contains placed node
        → HasRun (class_of node) channels span ins rows (get_or seats node d) node (board_at olds node) (board_at boards node) (get_or befores node []) (get_or states node []) (row_at rows node)
    pub behind : (node : ℕ) (d : Seat) → Contains placed node → IsBehindThem placed (get_or seats node d)
    pub boards_are : (node : ℕ) → ¬ Contains placed node → board_at boards node ≡ board_at olds node
    pub states_are : (node : ℕ) → ¬ Contains placed node → get_or states node [] ≡ get_or befores node []

  nothing : {A : Type 0} (node : ℕ) → Contains [] node → A
  nothing node is = absurd (let lt = is.1 in omega (arith, lt))

  -- at first none did
  pub none_ran : (rows : List (List ℤ)) → HaveRun [] olds befores rows
  none_ran rows = record {
    run = λ node d is. nothing node is;
    behind = λ node d is. nothing node is;
    boards_are = λ node none. refl;
    states_are = λ node none. refl;
  }

  -- what a node's run changes
  pub record IsNext (node : ℕ) (boards news : List (List Control)) (states afters : List State) (rows others : List (List ℤ)) : Type 0 where
    pub run : (d : Seat) → HasRun (class_of node) channels span ins rows (get_or seats node d) node (board_at boards node) (board_at news node) (get_or states node []) (get_or afters node []) (row_at others node)
    pub boards_stay : (other : ℕ) → other ≢ node → board_at news other ≡ board_at boards other
    pub states_stay : (other : ℕ) → other ≢ node → get_or afters other [] ≡ get_or states other []
    pub rows_stay : (other : ℕ) → other ≢ node → row_at others other ≡ row_at rows other

  -- one more
  module _ (placed : List ℕ) (node : ℕ) (boards news : List (List Control)) (states afters : List State) (rows others : List (List ℤ))
      (ran : HaveRun placed boards states rows) (missing : ¬ Contains placed node) (from : (d : Seat) → IsBehindThem placed (get_or seats node d)) (next : IsNext node boards news states afters rows others) where
    apart : (other : ℕ) → Contains placed other → other ≢ node
    apart other is same = missing (subst (λ (m : ℕ). Contains placed m) same is)

    same_rows : AreSameAt placed rows others
    same_rows other is = sym (next.rows_stay other (apart other is))

    ran_before : (other : ℕ) (d : Seat) → Contains placed other
        → HasRun (class_of other) channels span ins others (get_or seats other d) other (board_at olds other) (board_at news other) (get_or befores other []) (get_or afters other []) (row_at others other)
    ran_before other d is =
        let far = apart other is in
        let seat : Seat = get_or seats other d in
        subst (λ (new : List Control). HasRun (class_of other) channels span ins others seat other (board_at olds other) new (get_or befores other []) (get_or afters other []) (row_at others other)) (sym (next.boards_stay other far))
        (subst (λ (after : State). HasRun (class_of other) channels span ins others seat other (board_at olds other) (board_at boards other) (get_or befores other []) after (row_at others other)) (sym (next.states_stay other far))
        (subst (λ (samples : List ℤ). HasRun (class_of other) channels span ins others seat other (board_at olds other) (board_at boards other) (get_or befores other []) (get_or states other []) samples) (sym (next.rows_stay other far))
        (has_run_same (class_of other) channels span ins rows others placed seat other (board_at olds other) (board_at boards other) (get_or befores other []) (get_or states other []) (row_at rows other) same_rows (ran.behind other d is) (ran.run other d is))))

    ran_now : (d : Seat) → HasRun (class_of node) channels span ins others (get_or seats node d) node (board_at olds node) (board_at news node) (get_or befores node []) (get_or afters node []) (row_at others node)
    ran_now d =
        let seat : Seat = get_or seats node d in
        subst (λ (old : List Control). HasRun (class_of node) channels span ins others seat node old (board_at news node) (get_or befores node []) (get_or afters node []) (row_at others node)) (ran.boards_are node missing)
        (subst (λ (before : State). HasRun (class_of node) channels span ins others seat node (board_at boards node) (board_at news node) before (get_or afters node []) (row_at others node)) (ran.states_are node missing)
        (has_run_same (class_of node) channels span ins rows others placed seat node (board_at boards node) (board_at news node) (get_or states node []) (get_or afters node []) (row_at others node) same_rows (from d) (next.run d)))

    far : (other : ℕ) → ¬ Contains (placed ++ node ∷ []) other → other ≢ node
    far other out same = out (subst (λ (m : ℕ). Contains (placed ++ node ∷ []) m) (sym same) (Contains-push placed node))

    pub one_more_ran : HaveRun (placed ++ node ∷ []) news afters others
    one_more_ran = record {
      run = λ other d is. elim (Contains-push_cases placed node other is) [
        | inl old ↦ ran_before other d old
        | inr same ↦ subst (λ (m : ℕ). HasRun (class_of m) channels span ins others (get_or seats m d) m (board_at olds m) (board_at news m) (get_or befores m []) (get_or afters m []) (row_at others m)) same (ran_now d)
      ];
      behind = λ other d is. elim (Contains-push_cases placed node other is) [
        | inl old ↦ behind_more placed node (get_or seats other d) (ran.behind other d old)
        | inr same ↦ subst (λ (m : ℕ). IsBehindThem (placed ++ node ∷ []) (get_or seats m d)) same (behind_more placed node (get_or seats node d) (from d))
      ];
      boards_are = λ other out. next.boards_stay other (far other out) ∙ ran.boards_are other (λ is. out (Contains-append_left placed (node ∷ []) other is));
      states_are = λ other out. next.states_stay other (far other out) ∙ ran.states_are other (λ is. out (Contains-append_left placed (node ∷ []) other is));
    }

-- Seats and boards, one more at a time.
use Rattle.std.proofs.Common.{◌≡◌, ◌∙◌, ◌⊎◌, inl, inr, ℕ, ◌+◌, ◌-◌, ◌<◌, ◌≤◌, List, [], ◌∷◌, ◌++◌, length, take, drop, Vec, refl, sym, ap, subst, arith}
use Rattle.std.specs.Prelude.{true, false, slice_index_or, sum_by}
use Rattle.std.specs.declared.alloc.Global.{Global}
use Rattle.std.proofs.lemmas.Bool.{cases_lt}
use Rattle.std.proofs.lemmas.List.{get_or_append_left, get_or_push, get_or_default, length_push, take_rest}
use Rattle.std.proofs.lemmas.List.Sums.{sum_by_more, sum_by-take-le}
use Rattle.vh_lane.specs.declared.lane.Lane.{Lane}
use Rattle.vh_params.specs.declared.param.ParamInfo.{ParamInfo}
use Rattle.vh_params.specs.Nodes.{Node, node_at, no_node}
use Rattle.vh_session.specs.declared.wire.End.TheVariants.{Node as AtNode}
use Rattle.vh_session.specs.declared.wire.Wire.{Wire}
use Rattle.vh_session.specs.Content.{Content, sources_into}
use Rattle.vh_engine.specs.declared.control.Control.{Control}
use Rattle.vh_engine.specs.declared.seat.Seat.{Seat}
use Rattle.vh_engine.specs.Plans.{AreSeats, IsFirst, IsFirstBoard, begin_of}

-- what holds of each of some, and of one more
pub each_more : {A : Type 0} (P : ℕ → A → Type 0) (xs : List A) (n : ℕ) (x : A) → length xs ≡ n → ((k : ℕ) (d : A) → k < n → P k (slice_index_or xs k d)) → P n x → (k : ℕ) (d : A) → k < n + 1 → P k (slice_index_or (xs ++ x ∷ []) k d)
each_more {A} P xs n x long each one k d lt = elim (cases_lt k n) [
  | inl before ↦ subst (λ (y : A). P k y) (sym (get_or_append_left xs (x ∷ []) d k (omega (arith, before, long)))) (each k d before)
  | inr past ↦
      let same : n ≡ k = omega (arith, past, lt) in
      subst (λ (j : ℕ). P j (slice_index_or (xs ++ x ∷ []) j d)) same (subst (λ (y : A). P n y) (sym (get_or_push xs x d n long)) one)
]

-- a node's wires
pub record IsSeatOf (wires : List Wire) (node : ℕ) (seat : Seat) : Type 0 where
  pub main : seat.main.items ≡ sources_into wires (AtNode node) false
  pub aux : seat.aux.items ≡ sources_into wires (AtNode node) true

-- those of the first n nodes
pub record AreSeatsOf (wires : List Wire) (seats : List Seat) (n : ℕ) : Type 0 where
  pub long : length seats ≡ n
  pub each : (node : ℕ) (d : Seat) → node < n → IsSeatOf wires node (slice_index_or seats node d)

pub seat_more : (wires : List Wire) (seats : List Seat) (n : ℕ) (seat : Seat) → AreSeatsOf wires seats n → seat.main.items ≡ sources_into wires (AtNode n) false → seat.aux.items ≡ sources_into wires (AtNode n) true
    → AreSeatsOf wires (seats ++ seat ∷ []) (n + 1)
seat_more wires seats n seat are main aux =
    let long = are.long in
    record {
      long = length_push seats seat ∙ ap (λ (m : ℕ). m + 1) long;
      each = each_more (IsSeatOf wires) seats n seat long are.each (record { main = main; aux = aux });
    }

-- and of all
pub seats_of_all : (session : Content) (seats : List Seat) (n : ℕ) → AreSeatsOf session.wires seats n → n ≡ length session.nodes → AreSeats session seats
seats_of_all session seats n are all =
    let long = are.long in
    record {
      long = long ∙ all;
      main = λ node d lt. (are.each node d (omega (arith, lt, long))).main;
      aux = λ node d lt. (are.each node d (omega (arith, lt, long))).aux;
    }

-- the first n parameters are at their first values
pub record AreFirsts (lanes : List (ℕ × ℕ × Lane)) (node : ℕ) (params : List ParamInfo) (firsts : List ℕ) (board : List Control) (n : ℕ) : Type 0 where
  pub long : length board ≡ n
  pub each : (k : ℕ) (e : Control) → k < n → (first : ℕ) (d : ParamInfo) → IsFirst lanes node (slice_index_or params k d) (slice_index_or firsts k first) (slice_index_or board k e)

pub first_more : (lanes : List (ℕ × ℕ × Lane)) (node : ℕ) (params : List ParamInfo) (firsts : List ℕ) (board : List Control) (n : ℕ) (control : Control) (param : ParamInfo) (value : ℕ) → AreFirsts lanes node params firsts board n
    → ((d : ParamInfo) → param ≡ slice_index_or params n d) → ((d : ℕ) → value ≡ slice_index_or firsts n d)
    → IsFirst lanes node param value control → AreFirsts lanes node params firsts (board ++ control ∷ []) (n + 1)
first_more lanes node params firsts board n control param value are param_is value_is is =
    let long = are.long in
    record {
      long = length_push board control ∙ ap (λ (m : ℕ). m + 1) long;
      each = each_more (λ (k : ℕ) (c : Control). (first : ℕ) (d : ParamInfo) → IsFirst lanes node (slice_index_or params k d) (slice_index_or firsts k first) c) board n control long are.each
          (λ first d. subst (λ (v : ℕ). IsFirst lanes node (slice_index_or params n d) v control) (value_is first) (subst (λ (p : ParamInfo). IsFirst lanes node p value control) (param_is d) is));
    }

-- and all of them
pub board_first : (lanes : List (ℕ × ℕ × Lane)) (node : ℕ) (params : List ParamInfo) (firsts : List ℕ) (board : List Control) (n : ℕ) → AreFirsts lanes node params firsts board n → n ≡ length params → IsFirstBoard lanes node params firsts board
board_first lanes node params firsts board n are all = record {
  long = are.long ∙ all;
  each = λ k first d e lt. are.each k e (omega (arith, lt, all)) first d;
}

-- where a node's first values begin
pub begin_more : (nodes : List Node) (node : ℕ) (d : Node) → node < length nodes → begin_of nodes (node + 1) ≡ begin_of nodes node + length (slice_index_or nodes node d).params
begin_more nodes node d lt = sum_by_more (λ (n : Node). length n.params) nodes node d lt

-- there are first values for it
pub begin_most : (nodes : List Node) (node : ℕ) (d : Node) (values : List ℕ) → node < length nodes → sum_by (λ n. length n.params) nodes ≤ length values
    → begin_of nodes node + length (slice_index_or nodes node d).params ≤ length values
begin_most nodes node d values lt all =
    let more = begin_more nodes node d lt in
    let most = sum_by-take-le (λ (n : Node). length n.params) nodes (node + 1) in
    omega (arith, more, most, all)

-- the boards of the first n nodes
pub record AreBoardsOf (lanes : List (ℕ × ℕ × Lane)) (nodes : List Node) (firsts : List ℕ) (boards : List (Vec Control Global)) (n : ℕ) : Type 0 where
  pub long : length boards ≡ n
  pub each : (node : ℕ) (e : Vec Control Global) → node < n → (d : Node) → IsFirstBoard lanes node (slice_index_or nodes node d).params (drop (begin_of nodes node) firsts) (slice_index_or boards node e).items

pub board_more : (lanes : List (ℕ × ℕ × Lane)) (nodes : List Node) (firsts : List ℕ) (boards : List (Vec Control Global)) (n : ℕ) (board : Vec Control Global) → AreBoardsOf lanes nodes firsts boards n
    → ((d : Node) → IsFirstBoard lanes n (slice_index_or nodes n d).params (drop (begin_of nodes n) firsts) board.items)
    → AreBoardsOf lanes nodes firsts (boards ++ board ∷ []) (n + 1)
board_more lanes nodes firsts boards n board are is =
    let long = are.long in
    record {
      long = length_push boards board ∙ ap (λ (m : ℕ). m + 1) long;
      each = each_more (λ (node : ℕ) (b : Vec Control Global). (d : Node) → IsFirstBoard lanes node (slice_index_or nodes node d).params (drop (begin_of nodes node) firsts) b.items) boards n board long are.each is;
    }

-- a board over the rest of the first values is one over those from its node's on
pub board_taken : (lanes taken : List (ℕ × ℕ × Lane)) (nodes : List Node) (firsts : List ℕ) (node at : ℕ) (params : List ParamInfo) (board : List Control) → taken ≡ lanes → at ≡ begin_of nodes node → node < length nodes → params ≡ (node_at nodes node).params
    → IsFirstBoard taken node params (take (length firsts - at) (drop at firsts)) board → (d : Node) → IsFirstBoard lanes node (slice_index_or nodes node d).params (drop (begin_of nodes node) firsts) board
board_taken lanes taken nodes firsts node at params board same begins lt params_are is d =
    let rest : take (length firsts - at) (drop at firsts) ≡ drop (begin_of nodes node) firsts = take_rest firsts at ∙ ap (λ (n : ℕ). drop n firsts) begins in
    let its : params ≡ (slice_index_or nodes node d).params = params_are ∙ ap (λ (n : Node). n.params) (get_or_default nodes node no_node d lt) in
    subst (λ (l : List (ℕ × ℕ × Lane)). IsFirstBoard l node (slice_index_or nodes node d).params (drop (begin_of nodes node) firsts) board) same
    (subst (λ (ps : List ParamInfo). IsFirstBoard taken node ps (drop (begin_of nodes node) firsts) board) its (subst (λ (vs : List ℕ). IsFirstBoard taken node params vs board) rest is))

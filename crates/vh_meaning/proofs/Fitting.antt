-- Frames that fit together are those of the recursion on the graph.
use Rattle.std.proofs.Common.{◌≡◌, ◌∙◌, ◌⊎◌, inl, inr, ℕ, zero, suc, ◌+◌, ◌<◌, ◌≤◌, Bool, true, false, List, [], ◌∷◌, ◌++◌, length, refl, sym, subst, arith, true≢false}
use Rattle.std.specs.Prelude.{Contains, ◌||◌}
use Rattle.std.specs.List.{list_any, IsDistinct, AllByRecursion}
use Rattle.std.proofs.Math.Dec.{eqb}
use Rattle.std.proofs.lemmas.Bool.{eqb-true}
use Rattle.std.proofs.lemmas.List.Elements.{Contains-push, Contains-append_left, Contains-push_cases}
use Rattle.std.proofs.lemmas.Map.Steps.{length-le_from_distinct_below}
use Rattle.vh_graph.specs.Paths.{sources_of}
use Rattle.vh_graph.specs.Order.{IsReady, IsOrderAfter, IsOrder}
use Rattle.vh_num.specs.Frames.{Frame}
use Rattle.vh_plugin.specs.Class.{State}
use Rattle.vh_session.specs.Content.{node_wires}
use Rattle.vh_meaning.specs.Scene.{Scene, node_count}
use Rattle.vh_meaning.specs.Frames.{given, frame_within}
use Rattle.vh_meaning.specs.Laws.{HasOrder, FramesThatFit, FramesFit}
use Rattle.vh_meaning.proofs.Reaching.{given_alike}

-- an order has no more nodes than there are

apart : (xs : List ℕ) (q : ℕ) → list_any (eqb q) xs ≡ false → AllByRecursion (λ y. eqb q y ≡ false) xs
apart [] q none = search
apart (x ∷ xs) q none = elim (eqb q x) as (λ t. eqb q x ≡ t → (t || list_any (eqb q) xs) ≡ false → AllByRecursion (λ y. eqb q y ≡ false) (x ∷ xs)) [
  | true ↦ λ e h. absurd (true≢false h)
  | false ↦ λ e h. (e, apart xs q h)
] refl none

-- the nodes that stand, without another order: no two are equal
pub record AreOnce (nodes : ℕ) (placed once : List ℕ) : Type 0 where
  pub distinct : IsDistinct eqb once
  pub below : (q : ℕ) → list_any (eqb q) once ≡ true → q < nodes
  pub stand : (q : ℕ) → list_any (eqb q) once ≡ true → Contains placed q

one_of : (q x : ℕ) (b c : Bool) → eqb q x ≡ b → (b || c) ≡ true → (q ≡ x) ⊎ (c ≡ true)
one_of q x true c test is = inl (eqb-true q x test)
one_of q x false c test is = inr is

one_more : (nodes : ℕ) (placed once : List ℕ) (x : ℕ) → AreOnce nodes placed once → x < nodes → ¬ Contains placed x → AreOnce nodes (placed ++ x ∷ []) (x ∷ once)
unfolding IsDistinct
one_more nodes placed once x are lt missing =
    let none : list_any (eqb x) once ≡ false = elim (list_any (eqb x) once) as (λ t. list_any (eqb x) once ≡ t → t ≡ false) [
      | true ↦ λ is. absurd (missing (are.stand x is))
      | false ↦ λ is. refl
    ] refl in
    let either = λ (q : ℕ) (is : (eqb q x || list_any (eqb q) once) ≡ true). one_of q x (eqb q x) (list_any (eqb q) once) refl is in
    record {
      distinct = (apart once x none, are.distinct);
      below = λ q is. elim (either q is) [ inl same ↦ subst (λ m. m < nodes) (sym same) lt | inr old ↦ are.below q old ];
      stand = λ q is. elim (either q is) [ inl same ↦ subst (λ m. Contains (placed ++ x ∷ []) m) (sym same) (Contains-push placed x) | inr old ↦ Contains-append_left placed (x ∷ []) q (are.stand q old) ];
    }

all_fit : (nodes : ℕ) (wires : List (ℕ × ℕ)) (placed once order : List ℕ) → IsOrderAfter nodes wires placed order → AreOnce nodes placed once → length once + length order ≤ nodes
all_fit nodes wires placed once [] are within =
    let few = length-le_from_distinct_below once nodes within.distinct within.below in
    omega (arith, few)
all_fit nodes wires placed once (x ∷ order) are within =
    let few = all_fit nodes wires (placed ++ x ∷ []) (x ∷ once) order are.1 (one_more nodes placed once x within are.0.ready.within are.0.ready.missing) in
    omega (arith, few)

order_length : (nodes : ℕ) (wires : List (ℕ × ℕ)) (order : List ℕ) → IsOrder nodes wires order → length order ≤ nodes
unfolding IsDistinct
order_length nodes wires order are =
    let few = all_fit nodes wires [] [] order are (record { distinct = search; below = λ q is. absurd (true≢false (sym is)); stand = λ q is. absurd (true≢false (sym is)) }) in
    omega (arith, few)

-- the sources of nodes are nodes

closed_after : (nodes : ℕ) (wires : List (ℕ × ℕ)) (placed order : List ℕ) → IsOrderAfter nodes wires placed order
    → ((node : ℕ) → Contains placed node → node < nodes) → ((node source : ℕ) → Contains placed node → Contains (sources_of wires node) source → source < nodes)
    → (node source : ℕ) → node < nodes → Contains (sources_of wires node) source → source < nodes
closed_after nodes wires placed [] are below closed node source lt is = closed node source (are node lt) is
closed_after nodes wires placed (x ∷ order) are below closed node source lt is =
    closed_after nodes wires (placed ++ x ∷ []) order are.1
    (λ m stands. elim (Contains-push_cases placed x m stands) [ inl old ↦ below m old | inr same ↦ subst (λ k. k < nodes) same are.0.ready.within ])
    (λ m s stands has. elim (Contains-push_cases placed x m stands) [
      | inl old ↦ closed m s old has
      | inr same ↦ below s (are.0.ready.sources s (subst (λ k. Contains (sources_of wires k) s) (sym same) has))
    ])
    node source lt is

nothing : {A : Type 0} (x : ℕ) → Contains [] x → A
nothing x is = absurd (let lt = is.1 in omega (arith, lt))

pub source_within : (scene : Scene) → HasOrder scene → (node source : ℕ) → node < node_count scene → Contains (sources_of (node_wires scene.wires) node) source → source < node_count scene
source_within scene has node source lt is = closed_after (node_count scene) (node_wires scene.wires) [] has.0 has.1 (λ m none. nothing m none) (λ m s none h. nothing m none) node source lt is

-- frames by depth, of which each is given for those one less deep
abbrev AreBuilt : Scene → (ℕ → State) → (ℕ → List ℕ) → Frame → (ℕ → ℕ → Frame) → Type 0
AreBuilt scene states values input frames = (depth node : ℕ) → node < node_count scene → frames (suc depth) node ≡ given scene states values input (frames depth) node

-- two such agree at a node where they do at its sources, one less deep
agree_one : (scene : Scene) (states : ℕ → State) (values : ℕ → List ℕ) (input : Frame) (frames others : ℕ → ℕ → Frame) → AreBuilt scene states values input frames → AreBuilt scene states values input others
    → (deep : ℕ) (placed : List ℕ) (x : ℕ) → IsReady (node_count scene) (node_wires scene.wires) placed x
    → ((node d e : ℕ) → Contains placed node → deep ≤ d → deep ≤ e → frames d node ≡ others e node)
    → (d e : ℕ) → suc deep ≤ d → suc deep ≤ e → frames d x ≡ others e x
agree_one scene states values input frames others one other deep placed x ready same zero e low high = absurd (omega (arith, low))
agree_one scene states values input frames others one other deep placed x ready same (suc d) zero low high = absurd (omega (arith, high))
agree_one scene states values input frames others one other deep placed x ready same (suc d) (suc e) low high =
    one d x ready.within
    ∙ given_alike scene x states states values values input (frames d) (others e)
    (record { state = refl; value = refl; sources = λ source is. same source d e (ready.sources source is) (omega (arith, low)) (omega (arith, high)) })
    ∙ sym (other e x ready.within)

-- two such agree where they are deep enough
agree_after : (scene : Scene) (states : ℕ → State) (values : ℕ → List ℕ) (input : Frame) (frames others : ℕ → ℕ → Frame) → AreBuilt scene states values input frames → AreBuilt scene states values input others
    → (deep : ℕ) (placed order : List ℕ) → IsOrderAfter (node_count scene) (node_wires scene.wires) placed order
    → ((node d e : ℕ) → Contains placed node → deep ≤ d → deep ≤ e → frames d node ≡ others e node)
    → (node d e : ℕ) → node < node_count scene → deep + length order ≤ d → deep + length order ≤ e → frames d node ≡ others e node
agree_after scene states values input frames others one other deep placed [] are same node d e lt low high = same node d e (are node lt) (omega (arith, low)) (omega (arith, high))
agree_after scene states values input frames others one other deep placed (x ∷ order) are same node d e lt low high =
    agree_after scene states values input frames others one other (suc deep) (placed ++ x ∷ []) order are.1
    (λ m d e stands l h. elim (Contains-push_cases placed x m stands) [
      | inl old ↦ same m d e old (omega (arith, l)) (omega (arith, h))
      | inr is ↦ subst (λ k. frames d k ≡ others e k) is (agree_one scene states values input frames others one other deep placed x are.0.ready same d e l h)
    ])
    node d e lt (omega (arith, low)) (omega (arith, high))

agree : (scene : Scene) (states : ℕ → State) (values : ℕ → List ℕ) (input : Frame) (frames others : ℕ → ℕ → Frame) → HasOrder scene → AreBuilt scene states values input frames → AreBuilt scene states values input others
    → (node d e : ℕ) → node < node_count scene → node_count scene ≤ d → node_count scene ≤ e → frames d node ≡ others e node
agree scene states values input frames others has one other node d e lt low high =
    let few = order_length (node_count scene) (node_wires scene.wires) has.0 has.1 in
    agree_after scene states values input frames others one other 0 [] has.0 has.1 (λ m d e none l h. nothing m none) node d e lt (omega (arith, few, low)) (omega (arith, few, high))

pub law_frames_that_fit : FramesThatFit
law_frames_that_fit scene states values input frames has fit node lt =
    agree scene states values input (λ depth. frames) (frame_within scene states values input) has (λ depth m within. fit m within) (λ depth m within. refl)
    node (node_count scene) (node_count scene) lt (omega arith) (omega arith)

pub law_frames_fit : FramesFit
law_frames_fit scene states values input has node lt =
    agree scene states values input (frame_within scene states values input) (frame_within scene states values input) has (λ depth m within. refl) (λ depth m within. refl)
    node (node_count scene) (suc (node_count scene)) lt (omega arith) (omega arith)

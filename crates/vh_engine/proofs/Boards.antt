-- A node's parameters beside those of its class.
use Rattle.std.proofs.Common.{◌≡◌, ◌∙◌, ℕ, suc, ◌+◌, ◌<◌, Bool, cond, List, [], ◌∷◌, ◌++◌, length, map, drop, Option, refl, sym, ap, arith}
use Rattle.std.specs.Prelude.{All, slice_index_or}
use Rattle.std.specs.List.{range_with_len, flat_map}
use Rattle.std.proofs.lemmas.List.Elements.{All-head, All-tail}
use Rattle.vh_lane.specs.declared.lane.Lane.{Lane}
use Rattle.vh_plugin.specs.Class.{Param, Class, State}
use Rattle.vh_meaning.specs.Scene.{Scene, node_count, class_at, params_at, lane_of}
use Rattle.vh_meaning.specs.Rendering.{seen_of, seen_at, of_all}
use Rattle.vh_meaning.specs.Steps.{value_now, values_now}
use Rattle.vh_engine.specs.declared.control.Control.{Control}
use Rattle.vh_engine.specs.Controls.{touch_of, line_of}
use Rattle.vh_engine.specs.Nodes.{AreOf, sent_of}
use Rattle.vh_engine.specs.Staged.{board_at, AreBoards}
use Rattle.vh_engine.specs.Seen.{seen_of_node, seen_of_all}
use Rattle.vh_engine.specs.Told.{values_now_of}
use Rattle.vh_engine.specs.Blocks.{IsCurrent}

pub first_same : {A : Type 0} (x y : A) (xs ys : List A) → x ∷ xs ≡ y ∷ ys → x ≡ y
first_same {A} x y xs ys same = ap (λ (l : List A). slice_index_or l 0 x) same

pub rest_same : {A : Type 0} (x y : A) (xs ys : List A) → x ∷ xs ≡ y ∷ ys → xs ≡ ys
rest_same {A} x y xs ys same = ap (λ (l : List A). drop 1 l) same

-- the parameters of a class, but the first
pub of_rest : (param : Param) (params : List Param) (control : Control) (controls : List Control) → AreOf (param ∷ params) (control ∷ controls) → AreOf params controls
of_rest param params control controls of = record {
  ids = rest_same _ _ _ _ of.ids;
  steps = rest_same _ _ _ _ of.steps;
  shown = rest_same _ _ _ _ of.shown;
}

-- each follows the lane that the scene gives it
abbrev pub HaveLines : Scene → List (ℕ × ℕ × Lane) → ℕ → List Param → List Control → Type 0
HaveLines scene lanes node params controls = (k : ℕ) (d : Control) (e : Param) → k < length controls → line_of lanes (slice_index_or controls k d) ≡ lane_of scene node (slice_index_or params k e)

-- the values of a node's parameters, from what is kept of them
pub values_of_board : (scene : Scene) (lanes : List (ℕ × ℕ × Lane)) (node s : ℕ) (params : List Param) (controls : List Control) → AreOf params controls → HaveLines scene lanes node params controls
    → values_now scene node params (map touch_of controls) s ≡ values_now_of lanes controls s
values_of_board scene lanes node s [] [] of lines = refl
values_of_board scene lanes node s [] (control ∷ controls) of lines = let ids = of.ids in absurd cc
values_of_board scene lanes node s (param ∷ params) [] of lines = refl
values_of_board scene lanes node s (param ∷ params) (control ∷ controls) of lines =
    ap (λ (line : Option (ℕ → ℕ)). value_now line (touch_of control) s ∷ values_now scene node params (map touch_of controls) s) (sym (lines 0 control param (omega arith)))
    ∙ ap (λ (l : List ℕ). value_now (line_of lanes control) (touch_of control) s ∷ l)
    (values_of_board scene lanes node s params controls (of_rest param params control controls of) (λ k d e lt. lines (suc k) d e (omega (arith, lt))))

pub sent_current : (lanes : List (ℕ × ℕ × Lane)) (s : ℕ) (controls : List Control) → All (IsCurrent lanes s) controls → sent_of controls ≡ values_now_of lanes controls s
sent_current lanes s [] current = refl
sent_current lanes s (control ∷ controls) current =
    ap (λ (value : ℕ). value ∷ sent_of controls) (All-head (IsCurrent lanes s) control controls current)
    ∙ ap (λ (l : List ℕ). value_now (line_of lanes control) (touch_of control) s ∷ l) (sent_current lanes s controls (All-tail (IsCurrent lanes s) control controls current))

-- what is seen of a node's parameters
pub seen_of_board : (class : Class) (state : State) (params : List Param) (controls : List Control) → AreOf params controls → seen_of class state params (sent_of controls) ≡ seen_of_node class state controls
seen_of_board class state [] [] of = refl
seen_of_board class state [] (control ∷ controls) of = let ids = of.ids in absurd cc
seen_of_board class state (param ∷ params) [] of = refl
seen_of_board class state (param ∷ params) (control ∷ controls) of =
    ap (λ (b : Bool). cond b (class.shown state param.id) control.sent ∷ seen_of class state params (sent_of controls)) (sym (first_same _ _ _ _ of.shown))
    ∙ ap (λ (id : ℕ). cond control.shown (class.shown state id) control.sent ∷ seen_of class state params (sent_of controls)) (sym (first_same _ _ _ _ of.ids))
    ∙ ap (λ (l : List ℕ). cond control.shown (class.shown state control.id) control.sent ∷ l) (seen_of_board class state params controls (of_rest param params control controls of))

seen_from : (class_of : ℕ → Class) (codes : List ℕ) (states : List State) (boards : List (List Control)) (from : ℕ) (seen : ℕ → List ℕ) → length states ≡ length codes → length boards ≡ length codes
    → ((k : ℕ) → k < length codes → seen (from + k) ≡ seen_of_node (class_of (slice_index_or codes k 0)) (slice_index_or states k []) (board_at boards k))
    → flat_map seen (range_with_len from (length codes)) ≡ seen_of_all class_of codes states boards
seen_from class_of [] states boards from seen long wide same = refl
seen_from class_of (code ∷ codes) [] boards from seen long wide same = absurd (omega (arith, long))
seen_from class_of (code ∷ codes) (state ∷ states) [] from seen long wide same = absurd (omega (arith, wide))
seen_from class_of (code ∷ codes) (state ∷ states) (board ∷ boards) from seen long wide same =
    let here : from ≡ from + 0 = omega arith in
    ap (λ (l : List ℕ). l ++ flat_map seen (range_with_len (from + 1) (length codes))) (ap seen here ∙ same 0 (omega arith))
    ∙ ap (λ (l : List ℕ). seen_of_node (class_of code) state board ++ l)
    (seen_from class_of codes states boards (from + 1) seen (omega (arith, long)) (omega (arith, wide))
    (λ k lt. let next : from + 1 + k ≡ from + suc k = omega arith in ap seen next ∙ same (suc k) (omega (arith, lt))))

-- What is seen of all parameters, where each processor has their values at a sample.
pub seen_of_boards : (scene : Scene) (lanes : List (ℕ × ℕ × Lane)) (s : ℕ) (states : List State) (boards : List (List Control)) → length states ≡ node_count scene → AreBoards scene lanes boards
    → ((node : ℕ) → node < node_count scene → All (IsCurrent lanes s) (board_at boards node))
    → seen_of_all scene.class_of scene.codes states boards
    ≡ of_all scene (seen_at scene (λ node. slice_index_or states node []) (λ node. values_now scene node (params_at scene node) (map touch_of (board_at boards node)) s))
seen_of_boards scene lanes s states boards long are current =
    sym (seen_from scene.class_of scene.codes states boards 0
    (seen_at scene (λ node. slice_index_or states node []) (λ node. values_now scene node (params_at scene node) (map touch_of (board_at boards node)) s)) long are.long
    (λ k lt.
    let board = are.each k lt in
    let controls = board_at boards k in
    let is : 0 + k ≡ k = omega arith in
    ap (λ (node : ℕ). seen_at scene (λ node. slice_index_or states node []) (λ node. values_now scene node (params_at scene node) (map touch_of (board_at boards node)) s) node) is
    ∙ ap (seen_of (class_at scene k) (slice_index_or states k []) (params_at scene k))
    (values_of_board scene lanes k s (params_at scene k) controls board.of board.lines ∙ sym (sent_current lanes s controls (current k lt)))
    ∙ seen_of_board (class_at scene k) (slice_index_or states k []) (params_at scene k) controls board.of))

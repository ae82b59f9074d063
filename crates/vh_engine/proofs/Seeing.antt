-- What is seen of the parameters, node by node.
use Rattle.std.proofs.Common.{◌≡◌, ◌∙◌, ℕ, ◌+◌, ◌<◌, ◌≤◌, ◌^◌, cond, List, [], ◌∷◌, ◌++◌, length, get_or, set, take, sym, ap, subst, arith}
use Rattle.std.specs.Prelude.{All}
use Rattle.std.proofs.lemmas.List.{take_more, take_more_set, map_more, length-take, length-set, append_assoc, append-nil}
use Rattle.std.proofs.lemmas.List.Elements.{All-push}
use Rattle.vh_plugin.specs.Class.{Class, State}
use Rattle.vh_engine.specs.declared.control.Control.{Control}
use Rattle.vh_engine.specs.Seen.{seen_of_node, seen_of_all}
use Rattle.vh_engine.specs.Staged.{board_at}

-- one node more is seen
seen_push : (class_of : ℕ → Class) (codes : List ℕ) (states : List State) (boards : List (List Control)) (code : ℕ) (state : State) (board : List Control) → length states ≡ length codes → length boards ≡ length codes
    → seen_of_all class_of (codes ++ code ∷ []) (states ++ state ∷ []) (boards ++ board ∷ []) ≡ seen_of_all class_of codes states boards ++ seen_of_node (class_of code) state board
seen_push class_of [] [] [] code state board long wide = append-nil (seen_of_node (class_of code) state board)
seen_push class_of [] [] (other ∷ boards) code state board long wide = absurd (omega (arith, wide))
seen_push class_of [] (other ∷ states) boards code state board long wide = absurd (omega (arith, long))
seen_push class_of (other ∷ codes) [] boards code state board long wide = absurd (omega (arith, long))
seen_push class_of (other ∷ codes) (before ∷ states) [] code state board long wide = absurd (omega (arith, wide))
seen_push class_of (other ∷ codes) (before ∷ states) (controls ∷ boards) code state board long wide =
    let here = seen_of_node (class_of other) before controls in
    ap (λ (l : List ℕ). here ++ l) (seen_push class_of codes states boards code state board (omega (arith, long)) (omega (arith, wide)))
    ∙ sym (append_assoc here (seen_of_all class_of codes states boards) (seen_of_node (class_of code) state board))

pub seen_more : (class_of : ℕ → Class) (codes : List ℕ) (states : List State) (boards : List (List Control)) (i : ℕ) → length states ≡ length codes → length boards ≡ length codes → i < length codes
    → seen_of_all class_of (take (i + 1) codes) (take (i + 1) states) (take (i + 1) boards) ≡ seen_of_all class_of (take i codes) (take i states) (take i boards) ++ seen_of_node (class_of (get_or codes i 0)) (get_or states i []) (board_at boards i)
seen_more class_of codes states boards i long wide lt =
    ap (λ (l : List ℕ). seen_of_all class_of l (take (i + 1) states) (take (i + 1) boards)) (take_more codes i 0 lt)
    ∙ ap (λ (l : List State). seen_of_all class_of (take i codes ++ get_or codes i 0 ∷ []) l (take (i + 1) boards)) (take_more states i [] (omega (arith, long, lt)))
    ∙ ap (λ (l : List (List Control)). seen_of_all class_of (take i codes ++ get_or codes i 0 ∷ []) (take i states ++ get_or states i [] ∷ []) l) (take_more boards i [] (omega (arith, wide, lt)))
    ∙ seen_push class_of (take i codes) (take i states) (take i boards) (get_or codes i 0) (get_or states i []) (board_at boards i)
    (omega (arith, length-take i states, length-take i codes, long)) (omega (arith, length-take i boards, length-take i codes, wide))

-- and its value is at most 1.0
pub within_next : (values : List ℕ) (place value : ℕ) → place < length values → All (λ v. v ≤ 2 ^ 24) (take place values) → value ≤ 2 ^ 24 → All (λ v. v ≤ 2 ^ 24) (take (place + 1) (set values place value))
within_next values place value lt before within =
    subst (λ (l : List ℕ). All (λ v. v ≤ 2 ^ 24) l) (sym (take_more_set values place value lt)) (All-push (λ (v : ℕ). v ≤ 2 ^ 24) (take place values) value before within)

-- one parameter more
pub seen_next : (class : Class) (state : State) (board : List Control) (values : List ℕ) (place : ℕ) (d : Control) (value : ℕ) → place < length board → length values ≡ length board → take place values ≡ seen_of_node class state (take place board)
    → value ≡ cond (get_or board place d).shown (class.shown state (get_or board place d).id) (get_or board place d).sent
    → (length (set values place value) ≡ length board) × (take (place + 1) (set values place value) ≡ seen_of_node class state (take (place + 1) board))
seen_next class state board values place d value lt long same is = (
  length-set values place value ∙ long,
  take_more_set values place value (omega (arith, long, lt))
      ∙ ap (λ (l : List ℕ). l ++ value ∷ []) same
      ∙ ap (λ (n : ℕ). seen_of_node class state (take place board) ++ n ∷ []) is
      ∙ sym (map_more (λ (control : Control). cond control.shown (class.shown state control.id) control.sent) board place d lt),
)

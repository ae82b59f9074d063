-- The gates of nodes, and what marking them does.
use Rattle.std.proofs.Common.{◌≡◌, ℕ, suc, ◌+◌, ◌<◌, List, [], ◌∷◌, ◌++◌, length, map, set, take, drop, get_or, sym, ap, ◌∙◌, append-nil, append_assoc, arith}
use Rattle.std.proofs.lemmas.List.{length-take, take_more, take_more_set, map_more, get_or-drop, drop-set-lt, drop-drop}
use Rattle.vh_params.specs.Nodes.{Node, no_node, node_at}
use Rattle.vh_gesture.specs.declared.gestures.Gate.{Gate}
use Rattle.vh_gesture.specs.Tables.{gates_of, gates_from}

gates_from-push : (number : ℕ) (nodes : List Node) (node : Node) → gates_from number (nodes ++ node ∷ []) ≡ gates_from number nodes ++ gates_of (number + length nodes) node.params
gates_from-push number [] node = append-nil _ ∙ ap (λ k. gates_of k node.params) (omega arith)
gates_from-push number (first ∷ nodes) node =
    ap (λ gates. gates_of number first.params ++ gates) (gates_from-push (suc number) nodes node ∙ ap (λ k. gates_from (suc number) nodes ++ gates_of k node.params) (omega arith))
    ∙ sym (append_assoc (gates_of number first.params) (gates_from (suc number) nodes) (gates_of (number + suc (length nodes)) node.params))

pub gates_from-more : (nodes : List Node) (number : ℕ) → number < length nodes
    → gates_from 0 (take (number + 1) nodes) ≡ gates_from 0 (take number nodes) ++ gates_of number (node_at nodes number).params
gates_from-more nodes number within =
    ap (gates_from 0) (take_more nodes number no_node within) ∙ gates_from-push 0 (take number nodes) (node_at nodes number)
    ∙ ap (λ k. gates_from 0 (take number nodes) ++ gates_of k (node_at nodes number).params) (omega (arith, length-take number nodes))

-- one step of a loop that puts f of each gate in its place
pub step_done : (f : Gate → Gate) (old now : List Gate) (i : ℕ) (d : Gate) → i < length now → i < length old → take i now ≡ map f (take i old) → drop i now ≡ drop i old
    → take (i + 1) (set now i (f (get_or now i d))) ≡ map f (take (i + 1) old)
step_done f old now i d within within' done left =
    let at : get_or now i d ≡ get_or old i d = ap (λ k. get_or now k d) (omega arith) ∙ sym (get_or-drop i now 0 d) ∙ ap (λ gates. get_or gates 0 d) left ∙ get_or-drop i old 0 d ∙ ap (λ k. get_or old k d) (omega arith) in
    take_more_set now i (f (get_or now i d)) within ∙ (λ j. done j ++ f (at j) ∷ []) ∙ sym (map_more f old i d within')

pub step_left : (old now : List Gate) (i : ℕ) (gate : Gate) → drop i now ≡ drop i old → drop (i + 1) (set now i gate) ≡ drop (i + 1) old
step_left old now i gate left = drop-set-lt (i + 1) now i gate (omega arith) ∙ sym (drop-drop 1 i now) ∙ ap (drop 1) left ∙ drop-drop 1 i old

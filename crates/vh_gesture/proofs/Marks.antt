-- What opening and closing the gestures on a parameter does to each.
use Rattle.std.proofs.Common.{◌≡◌, ℕ, zero, suc, ◌+◌, ◌<◌, Bool, true, false, ◌&&◌, ◌||◌, ◌==◌, List, [], ◌∷◌, length, map, Some, is_none, if◌then◌else◌, refl, sym, ap, ◌∙◌, arith}
use Rattle.std.specs.List.{list_any}
use Rattle.std.proofs.lemmas.Bool.{and_parts, eqb-true, eq-eqb, lt-ltb, or_left, or_right, true≢false}
use Rattle.std.proofs.lemmas.List.Folds.{list_any-append}
use Rattle.vh_params.specs.declared.param.ParamInfo.{ParamInfo}
use Rattle.vh_params.specs.Nodes.{Node, node_at, info_in}
use Rattle.vh_params.specs.Params.{param_in}
use Rattle.vh_gesture.specs.declared.gestures.Gate.{Gate}
use Rattle.vh_gesture.specs.declared.gestures.References.{References}
use Rattle.vh_gesture.specs.Tables.{IsOf, is_at, is_open, marked, mark, key_of, gates_of, gates_from}

-- a gate of this parameter is there
abbrev pub has_gate : List Gate → ℕ → ℕ → Bool
has_gate gates node id = list_any (is_at node id) gates

abbrev is_open_at : ℕ → ℕ → Gate → Bool
is_open_at node id gate = is_at node id gate && gate.opened

marked_here : (node id : ℕ) (opened : Bool) (gate : Gate) → is_open_at node id (marked node id opened gate) ≡ (is_at node id gate && opened)
marked_here node id opened gate = by_cases (is_at node id gate) refl
  where
    by_cases : (here : Bool) → is_at node id gate ≡ here → is_open_at node id (if here then record gate { opened = opened } else gate) ≡ (here && opened)
    by_cases true h = ap (λ b. b && opened) h
    by_cases false h = ap (λ b. b && gate.opened) h

marked_elsewhere : (node id : ℕ) (opened : Bool) (other key : ℕ) (gate : Gate) → ((node == other) && (id == key)) ≡ false
    → is_open_at other key (marked node id opened gate) ≡ is_open_at other key gate
marked_elsewhere node id opened other key gate apart = by_cases (is_at node id gate) refl
  where
    by_cases : (here : Bool) → is_at node id gate ≡ here → is_open_at other key (if here then record gate { opened = opened } else gate) ≡ is_open_at other key gate
    by_cases true h =
        let both = and_parts (gate.node == node) (gate.id == id) h in
        let elsewhere : is_at other key gate ≡ false = (λ i. (eqb-true gate.node node both.0 i == other) && (eqb-true gate.id id both.1 i == key)) ∙ apart in
        ap (λ b. b && opened) elsewhere ∙ sym (ap (λ b. b && gate.opened) elsewhere)
    by_cases false h = refl

pub opened_here : (node id : ℕ) (gates : List Gate) → is_open (mark node id true gates) node id ≡ has_gate gates node id
opened_here node id [] = refl
opened_here node id (gate ∷ gates) = λ i. (marked_here node id true gate ∙ and_true (is_at node id gate)) i || opened_here node id gates i
  where
    and_true : (b : Bool) → (b && true) ≡ b
    and_true true = refl
    and_true false = refl

pub closed_here : (node id : ℕ) (gates : List Gate) → is_open (mark node id false gates) node id ≡ false
closed_here node id [] = refl
closed_here node id (gate ∷ gates) = λ i. (marked_here node id false gate ∙ and_false (is_at node id gate)) i || closed_here node id gates i
  where
    and_false : (b : Bool) → (b && false) ≡ false
    and_false true = refl
    and_false false = refl

pub same_elsewhere : (node id : ℕ) (opened : Bool) (other key : ℕ) (gates : List Gate) → ((node == other) && (id == key)) ≡ false
    → is_open (mark node id opened gates) other key ≡ is_open gates other key
same_elsewhere node id opened other key [] apart = refl
same_elsewhere node id opened other key (gate ∷ gates) apart =
    λ i. marked_elsewhere node id opened other key gate apart i || same_elsewhere node id opened other key gates apart i

pub keys_kept : (node id : ℕ) (opened : Bool) (gates : List Gate) → map key_of (mark node id opened gates) ≡ map key_of gates
keys_kept node id opened [] = refl
keys_kept node id opened (gate ∷ gates) = λ i. by_cases (is_at node id gate) i ∷ keys_kept node id opened gates i
  where
    by_cases : (here : Bool) → key_of (if here then record gate { opened = opened } else gate) ≡ key_of gate
    by_cases true = refl
    by_cases false = refl

-- the gates of nodes are closed at first
closed_of : (number : ℕ) (params : List ParamInfo) (node id : ℕ) → is_open (gates_of number params) node id ≡ false
closed_of number [] node id = refl
closed_of number (param ∷ params) node id = λ i. and_false ((number == node) && (param.id == id)) i || closed_of number params node id i
  where
    and_false : (b : Bool) → (b && false) ≡ false
    and_false true = refl
    and_false false = refl

pub closed_at_first : (number : ℕ) (nodes : List Node) (node id : ℕ) → is_open (gates_from number nodes) node id ≡ false
closed_at_first number [] node id = refl
closed_at_first number (first ∷ nodes) node id =
    list_any-append (is_open_at node id) (gates_of number first.params) (gates_from (suc number) nodes)
    ∙ (λ i. closed_of number first.params node id i || closed_at_first (suc number) nodes node id i)

-- each parameter has its gate
gate_of : (number : ℕ) (params : List ParamInfo) (id : ℕ) → is_none (param_in params id) ≡ false → has_gate (gates_of number params) number id ≡ true
gate_of number [] id known = absurd (true≢false known)
gate_of number (param ∷ params) id known = by_cases (λ h. gate_of number params id h) (param.id == id) known
  where
    by_cases : (is_none (param_in params id) ≡ false → has_gate (gates_of number params) number id ≡ true)
        → (here : Bool) → is_none (if here then Some param else param_in params id) ≡ false → (((number == number) && here) || has_gate (gates_of number params) number id) ≡ true
    by_cases later true h = ap (λ b. (b && true) || has_gate (gates_of number params) number id) (eq-eqb number number refl)
    by_cases later false h = or_right ((number == number) && false) (has_gate (gates_of number params) number id) (later h)

gate_from : (number place : ℕ) (nodes : List Node) (id : ℕ) → place < length nodes → is_none (param_in (node_at nodes place).params id) ≡ false
    → has_gate (gates_from number nodes) (number + place) id ≡ true
gate_from number place [] id within known = absurd (omega arith)
gate_from number zero (node ∷ nodes) id within known =
    let n : number + 0 ≡ number = omega arith in
    list_any-append (is_at (number + 0) id) (gates_of number node.params) (gates_from (suc number) nodes)
    ∙ or_left (has_gate (gates_of number node.params) (number + 0) id) (has_gate (gates_from (suc number) nodes) (number + 0) id) (ap (λ k. has_gate (gates_of number node.params) k id) n ∙ gate_of number node.params id known)
gate_from number (suc place) (node ∷ nodes) id within known =
    let n : number + suc place ≡ suc number + place = omega arith in
    list_any-append (is_at (number + suc place) id) (gates_of number node.params) (gates_from (suc number) nodes)
    ∙ or_right (has_gate (gates_of number node.params) (number + suc place) id) (has_gate (gates_from (suc number) nodes) (number + suc place) id)
    (ap (λ k. has_gate (gates_from (suc number) nodes) k id) n ∙ gate_from (suc number) place nodes id (omega arith) known)

-- whether a gate is there is said by the keys
abbrev has_key : ℕ → ℕ → List (ℕ × ℕ) → Bool
has_key node id keys = list_any (λ key. (key.0 == node) && (key.1 == id)) keys

by_keys : (gates : List Gate) (node id : ℕ) → has_gate gates node id ≡ has_key node id (map key_of gates)
by_keys [] node id = refl
by_keys (gate ∷ gates) node id = ap (λ b. is_at node id gate || b) (by_keys gates node id)

pub gate_is_there : (nodes : List Node) (gates : List Gate) (node id : ℕ) → map key_of gates ≡ map key_of (gates_from 0 nodes) → node < length nodes
    → is_none (info_in nodes node id) ≡ false → has_gate gates node id ≡ true
gate_is_there nodes gates node id keys within known =
    let n : 0 + node ≡ node = omega arith in
    let there : is_none (param_in (node_at nodes node).params id) ≡ false = rw (lt-ltb node (length nodes) within) at known in
    by_keys gates node id ∙ ap (has_key node id) keys ∙ sym (by_keys (gates_from 0 nodes) node id)
    ∙ ap (λ k. has_gate (gates_from 0 nodes) k id) (sym n) ∙ gate_from 0 node nodes id within there

pub kept_by_mark : (nodes : List Node) (references : List References) (gates gates' : List Gate) (node id : ℕ) (opened : Bool) → gates' ≡ mark node id opened gates
    → IsOf nodes (record { references = references; gates = gates }) → IsOf nodes (record { references = references; gates = gates' })
kept_by_mark nodes references gates gates' node id opened marked_ is = record { count = is.count; keys = ap (map key_of) marked_ ∙ keys_kept node id opened gates ∙ is.keys }

-- The wires of a number.
use Rattle.std.proofs.Common.{◌≡◌, ◌≢◌, ◌∙◌, ℕ, zero, suc, ◌+◌, ◌<◌, ◌≤◌, ◌==◌, Bool, true, false, cond, List, [], ◌∷◌, ◌++◌, length, map, Option, Some, None, inl, inr, refl, sym, ap, subst, arith}
use Rattle.std.specs.Prelude.{All, ◌&&◌, not, filter, unwrap_or, ◌/◌, ◌^◌}
use Rattle.std.specs.List.{range_with_len, cons_option}
use Rattle.std.proofs.Math.Nat.{mod-lt}
use Rattle.std.proofs.lemmas.Bool.{cases_eq, eq-eqb, ne_eqb, eqb-true}
use Rattle.std.proofs.lemmas.List.{length-append}
use Rattle.std.proofs.lemmas.List.Elements.{All-nil, All-cons, All-head, All-tail, All-append, All-contains}
use Rattle.std.proofs.lemmas.List.Folds.{list_any_none}
use Rattle.std.proofs.lemmas.List.FromFn.{length-map-range_with_len, get_or-map-range_with_len}
use Rattle.vh_graph.specs.Paths.{Leads, IsOnCycle, sources_of}
use Rattle.vh_session.specs.Content.{node_wires, between_nodes, ends}
use Rattle.vh_session.specs.Keeps.{EachBehind, Begins, IsWireBehind}
use Rattle.vh_session.specs.Lines.{end_number, same_wire}
use Rattle.vh_session.specs.declared.wire.End.TheVariants.{In, Out, Node as AtNode}
use Rattle.vh_session.specs.declared.wire.Wire.{Wire}
use Rattle.vh_gen.specs.Draws.{draw, behind}
use Rattle.vh_gen.specs.Nodes.{source_from, node_state, wire_in, wire_out, wires_from}
use Rattle.vh_gen.proofs.Grown.{behind_range, behind_append}

ends_apart : (node : ℕ) → AtNode node ≢ In
ends_apart node same = let e : 2 + node ≡ 0 = ap end_number same in omega (arith, e)

-- where a wire begins at a node, it is one before
source_before : (state node n : ℕ) → source_from state node ≡ AtNode n → n < node
source_before state node n is = elim (cases_eq node 0) [
  | inl first ↦
      let e : source_from state node ≡ In = ap (λ b. cond b In (AtNode (draw state 1 node))) (eq-eqb node 0 first) in
      absurd (ends_apart n (sym is ∙ e))
  | inr later ↦
      let e : source_from state node ≡ AtNode (draw state 1 node) = ap (λ b. cond b In (AtNode (draw state 1 node))) (ne_eqb node 0 later) in
      let same : 2 + draw state 1 node ≡ 2 + n = ap end_number (sym e ∙ is) in
      let low : draw state 1 node < node = mod-lt (behind 2 state / 2 ^ 16) (omega (arith, later)) in
      omega (arith, same, low)
]

source_begins : (state node count : ℕ) → node < count → Begins count (source_from state node)
source_begins state node count lt = elim (source_from state node) as (λ end. source_from state node ≡ end → Begins count end) [
  | In ↦ λ is. tt
  | Out ↦ λ is. elim (cases_eq node 0) [
    | inl first ↦ let e : source_from state node ≡ In = ap (λ b. cond b In (AtNode (draw state 1 node))) (eq-eqb node 0 first) in let n : 0 ≡ 1 = ap end_number (sym e ∙ is) in absurd (omega (arith, n))
    | inr later ↦ let e : source_from state node ≡ AtNode (draw state 1 node) = ap (λ b. cond b In (AtNode (draw state 1 node))) (ne_eqb node 0 later) in let n : 2 + draw state 1 node ≡ 1 = ap end_number (sym e ∙ is) in absurd (omega (arith, n))
  ]
  | AtNode n ↦ λ is. let below = source_before state node n is in omega (arith, below, lt)
] refl

both_false : (a b : Bool) → ((a && false) && b) ≡ false
both_false true b = refl
both_false false b = refl

-- wires to other ends are others
other_to : (a b : Wire) → end_number a.to ≢ end_number b.to → same_wire a b ≡ false
other_to a b apart = ap (λ t. ((end_number a.from == end_number b.from) && t) && (cond a.aux b.aux (not b.aux))) (ne_eqb (end_number a.to) (end_number b.to) apart)
    ∙ both_false (end_number a.from == end_number b.from) (cond a.aux b.aux (not b.aux))

other_from : (a b : Wire) → end_number a.from ≢ end_number b.from → same_wire a b ≡ false
other_from a b apart = ap (λ t. (t && (end_number a.to == end_number b.to)) && (cond a.aux b.aux (not b.aux))) (ne_eqb (end_number a.from) (end_number b.from) apart)

-- the wires to the first nodes
all_range : {A : Type 0} (P : A → Type 0) (f : ℕ → A) (n : ℕ) → ((i : ℕ) → i < n → P (f i)) → All P (map f (range_with_len 0 n))
all_range P f n each k d lt =
    let long = length-map-range_with_len f 0 n in
    let here : k < n = omega (arith, lt, long) in
    subst P (sym (get_or-map-range_with_len f 0 n k k d here (omega arith))) (each k here)

in_stands : (state count i : ℕ) → i < count → IsWireBehind count (map (wire_in state) (range_with_len 0 i)) (wire_in state i)
in_stands state count i lt = record {
  from = source_begins (node_state state i) i count lt;
  to = lt;
  new = list_any_none (same_wire (wire_in state i)) (map (wire_in state) (range_with_len 0 i))
      (all_range (λ w. same_wire (wire_in state i) w ≡ false) (wire_in state) i (λ j below. other_to (wire_in state i) (wire_in state j) (λ same. omega (arith, same, below))));
}

out_stands : (state count i : ℕ) → i < count → IsWireBehind count (map (wire_in state) (range_with_len 0 count) ++ map wire_out (range_with_len 0 i)) (wire_out i)
out_stands state count i lt = record {
  from = lt;
  to = refl;
  new = list_any_none (same_wire (wire_out i)) (map (wire_in state) (range_with_len 0 count) ++ map wire_out (range_with_len 0 i))
      (All-append (λ w. same_wire (wire_out i) w ≡ false) (map (wire_in state) (range_with_len 0 count)) (map wire_out (range_with_len 0 i))
      (all_range (λ w. same_wire (wire_out i) w ≡ false) (wire_in state) count (λ j below. other_to (wire_out i) (wire_in state j) (λ same. omega (arith, same))))
      (all_range (λ w. same_wire (wire_out i) w ≡ false) wire_out i (λ j below. other_from (wire_out i) (wire_out j) (λ same. omega (arith, same, below)))));
}

pub are_wires : (state count : ℕ) → EachBehind (IsWireBehind count) [] (wires_from state count)
are_wires state count = behind_append (IsWireBehind count) [] (map (wire_in state) (range_with_len 0 count)) (map wire_out (range_with_len 0 count))
    (behind_range (IsWireBehind count) [] (wire_in state) count (λ i lt. in_stands state count i lt))
    (behind_range (IsWireBehind count) (map (wire_in state) (range_with_len 0 count)) wire_out count (λ i lt. out_stands state count i lt))

pub wires_long : (state count : ℕ) → length (wires_from state count) ≡ count + count
wires_long state count =
    let a = length-map-range_with_len (wire_in state) 0 count in
    let b = length-map-range_with_len wire_out 0 count in
    let c = length-append (map (wire_in state) (range_with_len 0 count)) (map wire_out (range_with_len 0 count)) in
    omega (arith, a, b, c)

-- none of them is an aux wire
pub none_aux : (state count : ℕ) → All (λ wire. wire.aux ≡ false) (wires_from state count)
none_aux state count = All-append (λ (wire : Wire). wire.aux ≡ false) (map (wire_in state) (range_with_len 0 count)) (map wire_out (range_with_len 0 count))
    (all_range (λ (wire : Wire). wire.aux ≡ false) (wire_in state) count (λ i lt. refl)) (all_range (λ (wire : Wire). wire.aux ≡ false) wire_out count (λ i lt. refl))

-- each between nodes leads to a later one
abbrev Rises : Wire → Type 0
Rises wire = (pair : ℕ × ℕ) → between_nodes wire ≡ Some pair → pair.0 < pair.1

some_pair : (a b : ℕ × ℕ) → Some a ≡ Some b → a ≡ b
some_pair a b same = ap (λ (o : Option (ℕ × ℕ)). unwrap_or o a) same

in_rises : (state node : ℕ) → Rises (wire_in state node)
in_rises state node = elim (source_from (node_state state node) node) as (λ end. source_from (node_state state node) node ≡ end → (pair : ℕ × ℕ) → ends end (AtNode node) ≡ Some pair → pair.0 < pair.1) [
  | In ↦ λ is pair some. absurd cc
  | Out ↦ λ is pair some. absurd cc
  | AtNode n ↦ λ is pair some.
      let below = source_before (node_state state node) node n is in
      let same = some_pair (n, node) pair some in
      let from : n ≡ pair.0 = ap (λ (p : ℕ × ℕ). p.0) same in
      let to : node ≡ pair.1 = ap (λ (p : ℕ × ℕ). p.1) same in
      omega (arith, below, from, to)
] refl

out_rises : (node : ℕ) → Rises (wire_out node)
out_rises node pair some = absurd cc

all_rise : (wires : List Wire) → All Rises wires → All (λ pair. pair.0 < pair.1) (node_wires wires)
all_rise [] rise = All-nil (λ (pair : ℕ × ℕ). pair.0 < pair.1)
all_rise (wire ∷ wires) rise =
    let P : ℕ × ℕ → Type 0 = λ pair. pair.0 < pair.1 in
    let rest = all_rise wires (All-tail Rises wire wires rise) in
    let here : Rises wire = All-head Rises wire wires rise in
    elim (between_nodes wire) as (λ o. ((pair : ℕ × ℕ) → o ≡ Some pair → P pair) → All P (cons_option o (node_wires wires))) [
      | None ↦ λ each. rest
      | Some pair ↦ λ each. All-cons P pair (node_wires wires) (each pair refl) rest
    ] here

-- so no way leads back
sources_before : (pairs : List (ℕ × ℕ)) (node : ℕ) → All (λ pair. pair.0 < pair.1) pairs → All (λ source. source < node) (sources_of pairs node)
sources_before [] node rise = All-nil (λ (source : ℕ). source < node)
sources_before (pair ∷ pairs) node rise =
    let P : ℕ × ℕ → Type 0 = λ pair. pair.0 < pair.1 in
    let rest = sources_before pairs node (All-tail P pair pairs rise) in
    let here : pair.0 < pair.1 = All-head P pair pairs rise in
    elim (pair.1 == node) as (λ b. (pair.1 == node) ≡ b → All (λ source. source < node) (map (λ (wire : ℕ × ℕ). wire.0) (cond b (pair ∷ filter (λ (wire : ℕ × ℕ). wire.1 == node) pairs) (filter (λ (wire : ℕ × ℕ). wire.1 == node) pairs)))) [
      | true ↦ λ is. let same = eqb-true pair.1 node is in All-cons (λ source. source < node) pair.0 (sources_of pairs node) (omega (arith, here, same)) rest
      | false ↦ λ is. rest
    ] refl

leads_up : (pairs : List (ℕ × ℕ)) → All (λ pair. pair.0 < pair.1) pairs → (long first last : ℕ) → Leads pairs long first last → first + long ≤ last
leads_up pairs rise zero first last leads = omega (arith, leads)
leads_up pairs rise (suc long) first last leads =
    let before = leads_up pairs rise long first leads.0 leads.1 in
    let step : leads.0 < last = All-contains (λ source. source < last) (sources_of pairs last) leads.0 (sources_before pairs last rise) leads.2 in
    omega (arith, before, step)

pub no_cycle : (state count node : ℕ) → ¬ IsOnCycle (node_wires (wires_from state count)) node
no_cycle state count node cycle =
    let rise : All Rises (wires_from state count) = All-append Rises (map (wire_in state) (range_with_len 0 count)) (map wire_out (range_with_len 0 count))
    (all_range Rises (wire_in state) count (λ i lt. in_rises state i)) (all_range Rises wire_out count (λ i lt. out_rises i)) in
    let up = leads_up (node_wires (wires_from state count)) (all_rise (wires_from state count) rise) (suc cycle.0) node node cycle.1 in
    omega (arith, up)

-- Layers that are set in the nodes' order are the longest distances.
use Rattle.std.proofs.Common.{◌≡◌, ◌≢◌, ◌⊎◌, inl, inr, ◌∙◌, ℕ, zero, suc, ◌+◌, ◌<◌, ◌≤◌, List, [], ◌∷◌, ◌++◌, take, set, length, get_or, refl, sym, ap, subst, arith, ◌==◌, true, false}
use Rattle.std.specs.Prelude.{Contains, All}
use Rattle.std.proofs.lemmas.Bool.{cases_lt, eqb-true, eqb-false}
use Rattle.std.proofs.lemmas.List.{append_assoc, append-nil, get_or-take, get_or_default, length-take, get_or-set_same, get_or-set_other, length-set, take_more}
use Rattle.std.proofs.lemmas.List.Elements.{Contains-get_or, Contains-push, Contains-push_cases, Contains-append_left}
use Rattle.vh_graph.specs.Paths.{sources_of, IsLayer, AreLayers}
use Rattle.vh_graph.specs.Order.{IsOrderAfter, IsOrder}
use Rattle.vh_graph.specs.Steps.{IsAbove}
use Rattle.vh_graph.proofs.After.{all_stand, law_after_sources}
use Rattle.vh_graph.proofs.Layers.{AreAbove, are_layers}
use Rattle.vh_graph.proofs.Ready.{ends_below, first}
use Rattle.vh_graph.proofs.Searching.{at}

new_there : (nodes : ℕ) (wires : List (ℕ × ℕ)) (placed order : List ℕ) → IsOrderAfter nodes wires placed order → (i : ℕ) → i < length order → (¬ Contains (placed ++ take i order) (at order i)) × (at order i < nodes)
new_there nodes wires placed [] are i lt = absurd (omega (arith, lt))
new_there nodes wires placed (x ∷ xs) are zero lt = (subst (λ ns. ¬ Contains ns x) (sym (append-nil placed)) are.0.ready.missing, are.0.ready.within)
new_there nodes wires placed (x ∷ xs) are (suc i) lt =
    let rest = new_there nodes wires (placed ++ x ∷ []) xs are.1 i (omega (arith, lt)) in
    (subst (λ ns. ¬ Contains ns (at xs i)) (append_assoc placed (x ∷ []) (take i xs)) rest.0, rest.1)

-- no node stands twice
apart : (nodes : ℕ) (wires : List (ℕ × ℕ)) (order : List ℕ) → IsOrder nodes wires order → (j i : ℕ) → j < i → i < length order → at order j ≢ at order i
apart nodes wires order are j i lt il same =
    let long = length-take i order in
    let jl : j < length (take i order) = omega (arith, lt, il, long) in
    (new_there nodes wires [] order are i il).0 (j, jl, get_or_default (take i order) j (at order i) 0 jl ∙ get_or-take i order j 0 lt ∙ same)

pub in_order : (nodes : ℕ) (wires : List (ℕ × ℕ)) (order : List ℕ) → IsOrder nodes wires order → (i : ℕ) → i < length order → at order i < nodes
in_order nodes wires order are i il = (new_there nodes wires [] order are i il).1

above_kept : (layers sources : List ℕ) (x w v : ℕ) → ((s : ℕ) → Contains sources s → s ≢ x) → IsAbove layers sources v → IsAbove (set layers x w) sources v
above_kept layers sources x w v differ is = record {
  above = λ k d lt.
      let s = get_or sources k d in
      let other : get_or (set layers x w) s 0 ≡ get_or layers s 0 = get_or-set_other layers x s w 0 (differ s (Contains-get_or sources k d lt)) in
      subst (λ n. n < v) (sym other) (is.above k d lt);
  reason = elim is.reason [
    | inl none ↦ inl none
    | inr one ↦
        let other : get_or (set layers x w) one.0 0 ≡ get_or layers one.0 0 = get_or-set_other layers x one.0 w 0 (differ one.0 one.1) in
        inr (one.0, one.1, one.2 ∙ ap (λ n. 1 + n) (sym other))
  ];
}

pub AreLayered : List (ℕ × ℕ) → List ℕ → ℕ → List ℕ → Type 0
AreLayered wires order i layers = (j : ℕ) → j < i → IsAbove layers (sources_of wires (at order j)) (get_or layers (at order j) 0)

pub layered_more : (nodes : ℕ) (wires : List (ℕ × ℕ)) (order layers : List ℕ) (i v : ℕ) → IsOrder nodes wires order → i < length order → length layers ≡ nodes → AreLayered wires order i layers
    → IsAbove layers (sources_of wires (at order i)) v → AreLayered wires order (i + 1) (set layers (at order i) v)
unfolding AreLayered
layered_more nodes wires order layers i v are il long is above j lt =
    let x = at order i in
    let within : x < length layers = let l = in_order nodes wires order are i il in omega (arith, l, long) in
    -- the sources of a node that stands up to here are other nodes than this one
    let differ : (m : ℕ) → m ≤ i → (s : ℕ) → Contains (sources_of wires (at order m)) s → s ≢ x = λ m le s wire same.
    let one = law_after_sources nodes wires order are m 0 s (omega (arith, le, il)) wire in
    let ml = one.1 in
    apart nodes wires order are one.0 i (omega (arith, ml, le)) il (one.2 ∙ same) in
    elim (cases_lt j i) [
      | inl before ↦
          let other : get_or (set layers x v) (at order j) 0 ≡ get_or layers (at order j) 0 = get_or-set_other layers x (at order j) v 0 (apart nodes wires order are j i before il) in
          subst (λ n. IsAbove (set layers x v) (sources_of wires (at order j)) n) (sym other) (above_kept layers (sources_of wires (at order j)) x v (get_or layers (at order j) 0) (differ j (omega (arith, before))) (is j before))
      | inr here ↦
          let same : i ≡ j = omega (arith, here, lt) in
          subst (λ n. IsAbove (set layers x v) (sources_of wires (at order n)) (get_or (set layers x v) (at order n) 0)) same
          (subst (λ n. IsAbove (set layers x v) (sources_of wires x) n) (sym (get_or-set_same layers x v 0 within)) (above_kept layers (sources_of wires x) x v v (differ i (omega arith)) above))
    ]

pub layered_none : (wires : List (ℕ × ℕ)) (order layers : List ℕ) → AreLayered wires order 0 layers
unfolding AreLayered
layered_none wires order layers j lt = absurd (omega (arith, lt))

none_in : (xs : List ℕ) → ((x : ℕ) → ¬ Contains xs x) → xs ≡ []
none_in [] none = refl
none_in (x ∷ xs) none = absurd (none x (first x xs))

default_past : (layers : List ℕ) (x : ℕ) → length layers ≤ x → get_or layers x 0 ≡ 0
default_past [] x le = refl
default_past (l ∷ ls) zero le = absurd (omega (arith, le))
default_past (l ∷ ls) (suc x) le = default_past ls x (omega (arith, le))

no_sources : (nodes : ℕ) (wires : List (ℕ × ℕ)) → All (λ wire. (wire.0 < nodes) × (wire.1 < nodes)) wires → (x : ℕ) → nodes ≤ x → sources_of wires x ≡ []
no_sources nodes wires ends x ge = none_in (sources_of wires x) (λ s wire. let l = (ends_below nodes wires ends x s wire).1 in omega (arith, l, ge))

pub are_layered : (nodes : ℕ) (wires : List (ℕ × ℕ)) (order layers : List ℕ) → All (λ wire. (wire.0 < nodes) × (wire.1 < nodes)) wires → IsOrder nodes wires order → length layers ≡ nodes → AreLayered wires order (length order) layers
    → AreLayers wires layers
unfolding AreLayered
are_layered nodes wires order layers ends are long is =
    let layer : ℕ → ℕ = λ x. get_or layers x 0 in
    let at_node : (x : ℕ) → x < nodes → IsAbove layers (sources_of wires x) (layer x) = λ x lt.
    let one = all_stand nodes wires order are x lt in
    let same : at order one.0 ≡ x = get_or_default order one.0 0 x one.1 ∙ one.2 in
    subst (λ y. IsAbove layers (sources_of wires y) (layer y)) same (is one.0 one.1) in
    let every : AreAbove wires layer = record {
      above = λ node source wire.
          let lt = (ends_below nodes wires ends node source wire).1 in
          let all = (at_node node lt).above wire.0 source wire.1 in
          subst (λ s. layer s < layer node) wire.2 all;
      reason = λ node. elim (cases_lt node nodes) [
        | inr ge ↦ inl (no_sources nodes wires ends node ge, default_past layers node (omega (arith, ge, long)))
        | inl lt ↦
            let here = at_node node lt in
            elim here.reason [
              | inr one ↦ inr (one.0, one.1, one.2 ∙ (let e : 1 + layer one.0 ≡ suc (layer one.0) = omega arith in e))
              | inl none ↦ inl (none_in (sources_of wires node) (λ s wire. let low = subst (λ y. layer y < layer node) wire.2 (here.above wire.0 s wire.1) in omega (arith, low, none)), none)
            ]
      ];
    } in
    λ node d lt. subst (λ n. IsLayer wires node n) (get_or_default layers node 0 d lt) (are_layers wires layer every node)

-- one source more
pub above_more : (layers sources : List ℕ) (i layer now : ℕ) → i < length sources → IsAbove layers (take i sources) layer → layer ≤ now → 1 + get_or layers (at sources i) 0 ≤ now
    → (now ≡ layer) ⊎ (now ≡ 1 + get_or layers (at sources i) 0) → IsAbove layers (take (i + 1) sources) now
above_more layers sources i layer now lt is le high cases =
    let more : take (i + 1) sources ≡ take i sources ++ at sources i ∷ [] = take_more sources i 0 lt in
    subst (λ ns. IsAbove layers ns now) (sym more) (record {
      above = λ k d l. elim (Contains-push_cases (take i sources) (at sources i) (get_or (take i sources ++ at sources i ∷ []) k d) (Contains-get_or (take i sources ++ at sources i ∷ []) k d l)) [
        | inl old ↦
            let low = subst (λ s. get_or layers s 0 < layer) old.2 (is.above old.0 (get_or (take i sources ++ at sources i ∷ []) k d) old.1) in
            omega (arith, low, le)
        | inr same ↦ subst (λ s. get_or layers s 0 < now) same (omega (arith, high))
      ];
      reason = elim cases [
        | inr new ↦ inr (at sources i, Contains-push (take i sources) (at sources i), new)
        | inl old ↦ elim is.reason [
          | inl none ↦ inl (old ∙ none)
          | inr one ↦ inr (one.0, Contains-append_left (take i sources) (at sources i ∷ []) one.0 one.1, old ∙ one.2)
        ]
      ];
    })

-- a layer is no more than the number of nodes that stand
pub bound_more : (layers sources : List ℕ) (x v i : ℕ) → All (λ layer. layer ≤ i) layers → IsAbove layers sources v → All (λ source. source < length layers) sources → All (λ layer. layer ≤ i + 1) (set layers x v)
bound_more layers sources x v i all is within k d lt =
    let long = length-set layers x v in
    let kl : k < length layers = omega (arith, lt, long) in
    let old = all k d kl in
    elim (k == x) as (λ t. (k == x) ≡ t → get_or (set layers x v) k d ≤ i + 1) [
      | false ↦ λ test. subst (λ n. n ≤ i + 1) (sym (get_or-set_other layers x k v d (eqb-false k x test))) (omega (arith, old))
      | true ↦ λ test.
          let same = eqb-true k x test in
          let xl : x < length layers = omega (arith, kl, same) in
          let value : get_or (set layers x v) k d ≡ v = ap (λ m. get_or (set layers x v) m d) same ∙ get_or-set_same layers x v d xl in
          elim is.reason [
            | inl none ↦ omega (arith, value, none)
            | inr one ↦
                let sl : one.0 < length layers = subst (λ s. s < length layers) one.1.2 (within one.1.0 one.0 one.1.1) in
                let low = all one.0 0 sl in
                let e = one.2 in
                omega (arith, value, e, low)
          ]
    ] refl

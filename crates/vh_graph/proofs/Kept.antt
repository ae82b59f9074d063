-- What a search in depth keeps.
use Rattle.std.proofs.Common.{◌≡◌, ◌≢◌, inl, inr, ◌∙◌, ℕ, zero, suc, ◌+◌, ◌-◌, ◌<◌, ◌≤◌, Bool, true, false, List, [], ◌∷◌, ◌++◌, take, set, length, get_or, refl, sym, ap, subst, arith, ◌==◌}
use Rattle.std.specs.Prelude.{Contains}
use Rattle.std.proofs.lemmas.Bool.{eqb-true, eqb-false, cases_lt}
use Rattle.std.proofs.lemmas.List.{get_or-set_same, get_or-set_other, length-set, take_more, get_or-take, length-take-le}
use Rattle.std.proofs.lemmas.List.Elements.{Contains-push, Contains-append_left, Contains-push_cases}
use Rattle.vh_graph.specs.declared.search.Part.{Part}
use Rattle.vh_graph.specs.declared.search.Place.{Place}
use Rattle.vh_graph.specs.declared.search.Place.TheVariants.{Closed}
use Rattle.vh_graph.specs.Steps.{IsClosed}

pub closed_more : (on_cycle : Bool) (nodes : List ℕ) (i node e : ℕ) (before now : List Place) → i < length nodes → get_or nodes i e ≡ node → node < length now
    → IsClosed on_cycle (take i nodes) before now → IsClosed on_cycle (take (i + 1) nodes) before (set now node (Closed on_cycle))
closed_more on_cycle nodes i node e before now lt is within are =
    let more : take (i + 1) nodes ≡ take i nodes ++ node ∷ [] = take_more nodes i e lt ∙ ap (λ n. take i nodes ++ n ∷ []) is in
    record {
      long = length-set now node (Closed on_cycle) ∙ are.long;
      closed = λ x d has. elim (x == node) as (λ t. (x == node) ≡ t → get_or (set now node (Closed on_cycle)) x d ≡ Closed on_cycle) [
        | true ↦ λ test. rw (eqb-true x node test) (get_or-set_same now node (Closed on_cycle) d within)
        | false ↦ λ test. get_or-set_other now node x (Closed on_cycle) d (eqb-false x node test) ∙ (elim (Contains-push_cases (take i nodes) node x (subst (λ ns. Contains ns x) more has)) [
          | inl rest ↦ are.closed x d rest
          | inr same ↦ absurd (eqb-false x node test (sym same))
        ])
      ] refl;
      others = λ x d none.
          let differ : x ≢ node = λ same. none (subst (λ ns. Contains ns x) (sym more) (subst (λ y. Contains (take i nodes ++ node ∷ []) y) (sym same) (Contains-push (take i nodes) node))) in
          get_or-set_other now node x (Closed on_cycle) d differ ∙ are.others x d (λ rest. none (subst (λ ns. Contains ns x) (sym more) (Contains-append_left (take i nodes) (node ∷ []) x rest)));
    }

taken_of_taken : (m n : ℕ) (parts : List Part) → m ≤ n → take m (take n parts) ≡ take m parts
taken_of_taken zero n parts le = refl
taken_of_taken (suc m) zero parts le = absurd (omega (arith, le))
taken_of_taken (suc m) (suc n) [] le = refl
taken_of_taken (suc m) (suc n) (p ∷ ps) le = ap (λ qs. p ∷ qs) (taken_of_taken m n ps (omega (arith, le)))

pub popped_parts : (place : ℕ) (all parts after : List Part) → (n : ℕ) × (n ≤ length all) × (parts ≡ take n all) × ((k : ℕ) (d : Part) → n ≤ k → k < length all → place < (get_or all k d).node)
    → after ≡ take (length parts - 1) parts → 0 < length parts → ((d : Part) → place < (get_or parts (length parts - 1) d).node)
    → (n : ℕ) × (n ≤ length all) × (after ≡ take n all) × ((k : ℕ) (d : Part) → n ≤ k → k < length all → place < (get_or all k d).node)
popped_parts place all parts after kept now some behind =
    let n = kept.0 in
    let fits = kept.1 in
    let long : length parts ≡ n = ap (λ ps. length ps) kept.2 ∙ length-take-le n all fits in (
      n - 1,
      omega (arith, fits),
      now ∙ ap (λ m. take (m - 1) parts) long ∙ ap (λ ps. take (n - 1) ps) kept.2 ∙ taken_of_taken (n - 1) n all (omega arith),
      λ k d from lt. elim (cases_lt k n) [
        | inr later ↦ kept.3 k d later lt
        | inl before ↦
            let last : length parts - 1 ≡ k = omega (arith, long, from, before) in
            let lk : k < n = before in
            let here : place < (get_or parts k d).node = subst (λ m. place < (get_or parts m d).node) last (behind d) in
            let same : get_or parts k d ≡ get_or all k d = ap (λ ps. get_or ps k d) kept.2 ∙ get_or-take n all k d lk in
            subst (λ (p : Part). place < p.node) same here
      ],
    )

-- Tables with the same parameters, in which ids rise, are the same.
use Rattle.std.proofs.Common.{◌≡◌, ◌≢◌, ℕ, suc, ◌≤◌, true, false, nat_eq, nat_lt, Some, None, List, [], ◌∷◌, refl, sym, ap, ap₂, ◌∙◌, arith}
use Rattle.std.proofs.lemmas.Bool.{ltb-true, ltb-false, eq-eqb, eqb-true, true≢false, ne_eqb}
use Rattle.vh_params.specs.declared.param.ParamInfo.{ParamInfo}
use Rattle.vh_params.specs.Params.{param_in, AreRising}

some_same : (p q : ParamInfo) → Some p ≡ Some q → p ≡ q
some_same p q e = cc

none_some : (p : ParamInfo) → None ≡ Some p → ⊥
none_some p e = cc

rest_rises : (p : ParamInfo) (ps : List ParamInfo) → AreRising (p ∷ ps) → AreRising ps
rest_rises p ps rising i j d lt within = rising (suc i) (suc j) d (omega (arith, lt)) (omega (arith, within))

-- an id that is at most the first one's is none of the others
not_behind : (p : ParamInfo) (ps : List ParamInfo) (id : ℕ) → AreRising (p ∷ ps) → id ≤ p.id → param_in ps id ≡ None
not_behind p [] id rising le = refl
not_behind p (q ∷ ps) id rising le =
    let above = rising 0 1 p (omega arith) (omega arith) in
    let other : nat_eq q.id id ≡ false = ne_eqb q.id id (λ same. absurd (omega (arith, same, above, le))) in
    rw other (not_behind q ps id (rest_rises p (q ∷ ps) rising) (omega (arith, le, above)))

found_first : (p : ParamInfo) (ps : List ParamInfo) → param_in (p ∷ ps) p.id ≡ Some p
found_first p ps = rw (eq-eqb p.id p.id refl) refl

passed_first : (p : ParamInfo) (ps : List ParamInfo) (id : ℕ) → p.id ≢ id → param_in (p ∷ ps) id ≡ param_in ps id
passed_first p ps id other = rw (ne_eqb p.id id other) refl

-- the first of one list is no later than the first of the other
first_late : (p q : ParamInfo) (ps qs : List ParamInfo) → AreRising (q ∷ qs) → param_in (p ∷ ps) p.id ≡ param_in (q ∷ qs) p.id → q.id ≤ p.id
first_late p q ps qs rising same =
    elim (nat_lt p.id q.id) as (λ t. nat_lt p.id q.id ≡ t → q.id ≤ p.id) [
      | true ↦ λ test.
          let lt = ltb-true p.id q.id test in
          absurd (none_some p (sym (passed_first q qs p.id (λ e. absurd (omega (arith, lt, e))) ∙ not_behind q qs p.id rising (omega (arith, lt))) ∙ sym same ∙ found_first p ps))
      | false ↦ λ test. ltb-false p.id q.id test
    ] refl

pub sorted_once : (ps qs : List ParamInfo) → AreRising ps → AreRising qs → ((id : ℕ) → param_in ps id ≡ param_in qs id) → ps ≡ qs
sorted_once [] [] up too same = refl
sorted_once [] (q ∷ qs) up too same = absurd (none_some q (same q.id ∙ found_first q qs))
sorted_once (p ∷ ps) [] up too same = absurd (none_some p (sym (same p.id) ∙ found_first p ps))
sorted_once (p ∷ ps) (q ∷ qs) up too same =
    let one = first_late p q ps qs too (same p.id) in
    let two = first_late q p qs ps up (sym (same q.id)) in
    let ids : q.id ≡ p.id = omega (arith, one, two) in
    let heads : p ≡ q = some_same p q (sym (found_first p ps) ∙ same p.id ∙ ap (λ id. param_in (q ∷ qs) id) (sym ids) ∙ found_first q qs) in
    let tails = sorted_once ps qs (rest_rises p ps up) (rest_rises q qs too) (λ id. elim (nat_eq p.id id) as (λ t. nat_eq p.id id ≡ t → param_in ps id ≡ param_in qs id) [
      | true ↦ λ test.
          let here = eqb-true p.id id test in
          not_behind p ps id up (omega (arith, here)) ∙ sym (not_behind q qs id too (omega (arith, here, ids)))
      | false ↦ λ test.
          let other : p.id ≢ id = λ e. true≢false (sym (eq-eqb p.id id e) ∙ test) in
          sym (passed_first p ps id other) ∙ same id ∙ passed_first q qs id (λ e. other (sym ids ∙ e))
    ] refl) in
    ap₂ (λ (x : ParamInfo) (xs : List ParamInfo). x ∷ xs) heads tails

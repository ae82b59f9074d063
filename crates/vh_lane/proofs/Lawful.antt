-- Proofs of the laws.
use Rattle.std.proofs.Common.{◌≡◌, ℕ, zero, suc, ◌+◌, ◌/◌, ◌^◌, true, false, cond, nat_eq, List, [], ◌∷◌, ◌++◌, refl, sym, ap, ◌∙◌, arith}
use Rattle.std.proofs.lemmas.List.{append-nil, append_assoc, map-append}
use Rattle.vh_num.proofs.Lawful.{law_quant_twice}
use Rattle.vh_lane.specs.Values.{line_at, grained}
use Rattle.vh_lane.specs.Changes.{before, changes_of}
use Rattle.vh_lane.specs.Laws.{later_by, CutInTwo, IsGrained}

before_cut : (value : ℕ → ℕ) (from last m n : ℕ) → before value from last (m + n) ≡ before value (from + m) (before value from last m) n
before_cut value from last m zero = ap (λ k. before value from last k) (let e : m + 0 ≡ m = omega arith in e)
before_cut value from last m (suc n) =
    ap (λ k. before value from last k) (let e : m + suc n ≡ suc (m + n) = omega arith in e) ∙ ap value (let e : from + (m + n) ≡ from + m + n = omega arith in e)

pub law_cut_in_two : CutInTwo
law_cut_in_two value from last m zero =
    ap (λ k. changes_of value from last k) (let e : m + 0 ≡ m = omega arith in e) ∙ sym (append-nil (changes_of value from last m))
law_cut_in_two value from last m (suc n) =
    let front = changes_of value from last m in
    let last_of_front = before value from last m in
    let back = changes_of value (from + m) last_of_front n in
    let here = value (from + m + n) in
    let rest : changes_of value from last (m + n) ≡ front ++ later_by m back = law_cut_in_two value from last m n in
    let same : value (from + (m + n)) ≡ here = ap value (let e : from + (m + n) ≡ from + m + n = omega arith in e) in
    let since : before value from last (m + n) ≡ before value (from + m) last_of_front n = before_cut value from last m n in
    let whole : changes_of value from last (suc (m + n)) ≡ cond (nat_eq here (before value (from + m) last_of_front n)) (front ++ later_by m back) ((front ++ later_by m back) ++ (m + n, here) ∷ []) =
    rw same (rw since (rw rest refl)) in
    ap (λ k. changes_of value from last k) (let e : m + suc n ≡ suc (m + n) = omega arith in e) ∙ whole
    ∙ elim (nat_eq here (before value (from + m) last_of_front n)) as (λ t. cond t (front ++ later_by m back) ((front ++ later_by m back) ++ (m + n, here) ∷ []) ≡ front ++ later_by m (cond t back (back ++ (n, here) ∷ []))) [
      | true ↦ refl
      | false ↦ append_assoc front (later_by m back) ((m + n, here) ∷ []) ∙ ap (λ (points : List (ℕ × ℕ)). front ++ points) (sym (map-append (λ (point : ℕ × ℕ). (m + point.0, point.1)) back ((n, here) ∷ [])))
    ]

pub law_is_grained : IsGrained
law_is_grained steps grain breaks s few = ((line_at breaks s / 2 ^ grain, refl), law_quant_twice (grained grain (line_at breaks s)) steps few)

-- Lines, one after the other.
use Rattle.std.proofs.Common.{◌≡◌, ℕ, ◌≤◌, true, false, cond, nat_eq, List, [], ◌∷◌, length, map, refl, ap, arith}
use Rattle.vh_text.specs.Lines.{parts_of, first_part, after_part, begin_with, without_return, lines_of}

first_and_rest : (text : List ℕ) → 1 ≤ length text → parts_of text ≡ first_part text ∷ parts_of (after_part text)
first_and_rest [] some = absurd (omega arith)
first_and_rest (b ∷ []) some =
    elim (nat_eq b 10) as (λ t. cond t ([] ∷ []) (begin_with b []) ≡ cond t [] (b ∷ []) ∷ parts_of (cond t [] [])) [ true ↦ refl | false ↦ refl ]
first_and_rest (b ∷ c ∷ bs) some =
    let rest = first_and_rest (c ∷ bs) (omega arith) in
    elim (nat_eq b 10) as (λ t. cond t ([] ∷ parts_of (c ∷ bs)) (begin_with b (parts_of (c ∷ bs))) ≡ cond t [] (b ∷ first_part (c ∷ bs)) ∷ parts_of (cond t (c ∷ bs) (after_part (c ∷ bs)))) [
      | true ↦ refl
      | false ↦ ap (λ (parts : List (List ℕ)). begin_with b parts) rest
    ]

pub first_line_and_rest : (text : List ℕ) → 1 ≤ length text → lines_of text ≡ without_return (first_part text) ∷ lines_of (after_part text)
first_line_and_rest text some = ap (λ (parts : List (List ℕ)). map without_return parts) (first_and_rest text some)

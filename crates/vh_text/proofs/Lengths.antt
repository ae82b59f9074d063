-- A text's lines are no more, and none is longer, than its bytes.
use Rattle.std.proofs.Common.{◌≡◌, ℕ, zero, suc, ◌-◌, ◌<◌, ◌≤◌, ◌==◌, ◌^◌, true, false, cond, List, [], ◌∷◌, take, length, get_or, ap, subst, arith}
use Rattle.std.specs.Prelude.{All, slice_index}
use Rattle.std.proofs.lemmas.List.{length-map, length-take}
use Rattle.std.proofs.lemmas.List.Elements.{All-map}
use Rattle.vh_text.specs.Lines.{begin_with, parts_of, without_return, lines_of}

-- parts, none of them longer than this
abbrev AreShort : ℕ → List (List ℕ) → Type 0
AreShort most parts = (length parts ≤ most) × All (λ part. length part ≤ most) parts

first_ : (most : ℕ) (parts : List (List ℕ)) → AreShort most parts → (k : ℕ) (d : List ℕ) → k < suc (length parts) → length (get_or ([] ∷ parts) k d) ≤ suc most
first_ most parts are zero d lt = omega arith
first_ most parts are (suc k) d lt = let g = are.1 k d (omega (arith, lt)) in omega (arith, g)

only_ : (most b k : ℕ) (d : List ℕ) → k < 1 → length (get_or ((b ∷ []) ∷ []) k d) ≤ suc most
only_ most b zero d lt = omega arith
only_ most b (suc k) d lt = absurd (omega (arith, lt))

front_ : (most b : ℕ) (part : List ℕ) (parts : List (List ℕ)) → AreShort most (part ∷ parts) → (k : ℕ) (d : List ℕ) → k < suc (length parts) → length (get_or ((b ∷ part) ∷ parts) k d) ≤ suc most
front_ most b part parts are zero d lt = let g = are.1 0 part (omega arith) in omega (arith, g)
front_ most b part parts are (suc k) d lt = let g = are.1 (suc k) d (omega (arith, lt)) in omega (arith, g)

ended : (most : ℕ) (parts : List (List ℕ)) → AreShort most parts → AreShort (suc most) ([] ∷ parts)
ended most parts are = (let g = are.0 in omega (arith, g), first_ most parts are)

begins : (most b : ℕ) (parts : List (List ℕ)) → AreShort most parts → AreShort (suc most) (begin_with b parts)
begins most b [] are = (omega arith, only_ most b)
begins most b (part ∷ parts) are = (let g = are.0 in omega (arith, g), front_ most b part parts are)

are_short : (text : List ℕ) → AreShort (length text) (parts_of text)
are_short [] = (omega arith, λ k d lt. absurd (omega (arith, lt)))
are_short (b ∷ bs) = elim (b == 10) as (λ t. AreShort (suc (length bs)) (cond t ([] ∷ parts_of bs) (begin_with b (parts_of bs)))) [
  | true ↦ ended (length bs) (parts_of bs) (are_short bs)
  | false ↦ begins (length bs) b (parts_of bs) (are_short bs)
]

shorter : (part : List ℕ) → length (without_return part) ≤ length part
shorter part = elim (slice_index part (length part - 1) == 13) as (λ t. length (cond t (take (length part - 1) part) part) ≤ length part) [
  | true ↦ let e = length-take (length part - 1) part in omega (arith, e)
  | false ↦ omega arith
]

pub few_lines : (text : List ℕ) → length (lines_of text) ≤ length text
few_lines text = let e = length-map (parts_of text) without_return in let g = (are_short text).0 in omega (arith, e, g)

pub short_lines : (text : List ℕ) → All (λ line. length line ≤ length text) (lines_of text)
short_lines text = All-map (λ line. length line ≤ length text) without_return (parts_of text) (λ k d lt. let g = (are_short text).1 k d lt in let s = shorter (get_or (parts_of text) k d) in omega (arith, g, s))

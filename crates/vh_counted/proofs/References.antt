-- References, position by position.
use Rattle.std.proofs.Common.{◌≡◌, ◌≢◌, ℕ, zero, suc, ◌+◌, ◌<◌, ◌≤◌, List, [], ◌∷◌, length, get_or, set, refl, sym, ap, ◌∙◌, arith, below_more, get_or-set_other, get_or-set_same}
use Rattle.std.specs.Prelude.{sum}
use Rattle.std.proofs.lemmas.List.{same_lists, get_or_default, length-set}
use Rattle.std.proofs.lemmas.List.Sums.{get_or-le-sum_by}
use Rattle.vh_counted.specs.Steps.{both}

pub length_both : (xs ys : List ℕ) → length (both xs ys) ≡ length xs
length_both [] ys = refl
length_both (x ∷ xs) [] = refl
length_both (x ∷ xs) (y ∷ ys) = ap (λ n. suc n) (length_both xs ys)

pub both_at : (xs ys : List ℕ) (k : ℕ) → k < length xs → length xs ≡ length ys → get_or (both xs ys) k 0 ≡ get_or xs k 0 + get_or ys k 0
both_at [] ys k h e = absurd (omega arith)
both_at (x ∷ xs) [] k h e = absurd (omega arith)
both_at (x ∷ xs) (y ∷ ys) zero h e = refl
both_at (x ∷ xs) (y ∷ ys) (suc k) h e = both_at xs ys k (omega arith) (omega arith)

-- the positions before this one are joined, and the others are as they were
pub record IsJoined (now old other : List ℕ) (i : ℕ) : Type 0 where
  pub size : length now ≡ length old
  pub below : (k : ℕ) → k < i → get_or now k 0 ≡ get_or old k 0 + get_or other k 0
  pub above : (k : ℕ) → i ≤ k → get_or now k 0 ≡ get_or old k 0

pub joined_more : (now old other : List ℕ) (i x : ℕ) → i < length now → IsJoined now old other i → x ≡ get_or old i 0 + get_or other i 0 → IsJoined (set now i x) old other (i + 1)
joined_more now old other i x within is e = record {
  size = length-set now i x ∙ is.size;
  below = below_more _ i
      (λ k h. let apart : k ≢ i = omega arith in get_or-set_other now i k x 0 apart ∙ is.below k h)
      (get_or-set_same now i x 0 within ∙ e);
  above = λ k h. let apart : k ≢ i = omega arith in get_or-set_other now i k x 0 apart ∙ is.above k (omega arith);
}

pub joined_all : (now old other : List ℕ) (i : ℕ) → IsJoined now old other i → length old ≡ length other → length old ≤ i → now ≡ both old other
joined_all now old other i is same all =
    same_lists now (both old other) (is.size ∙ sym (length_both old other)) (λ k d h.
    let size = is.size in
    let within : k < length old = omega arith in
    let here = get_or_default now k d 0 h in
    let sum_is = is.below k (omega arith) in
    let there = both_at old other k within same in
    let default = get_or_default (both old other) k d 0 (omega (arith, length_both old other)) in
    cc)

pub at_most_sum : (xs : List ℕ) (k : ℕ) → k < length xs → get_or xs k 0 ≤ sum xs
at_most_sum xs k lt = get_or-le-sum_by (λ x. x) xs k 0 lt

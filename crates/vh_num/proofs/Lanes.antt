use Rattle.std.proofs.Common.{◌≡◌, ◌≢◌, set, ◌∙◌, below_more, get_or-set_other, get_or-set_same, ℕ, ◌+◌, ◌<◌, ◌≤◌, List, [], ◌∷◌, suc, zero, length, get_or, map, ℤ, pos, ◌+ℤ◌, refl, ap, arith}
use Rattle.std.proofs.lemmas.List.{same_lists, get_or-map, length-map, get_or_default}
use Rattle.vh_num.specs.Samples.{added}

-- the lanes before this one are summed, and the others are as they were
pub record IsSummed (acc old src : List ℤ) (i : ℕ) : Type 0 where
  pub below : (k : ℕ) → k < i → get_or acc k (pos 0) ≡ get_or old k (pos 0) +ℤ get_or src k (pos 0)
  pub above : (k : ℕ) → i ≤ k → get_or acc k (pos 0) ≡ get_or old k (pos 0)

pub length-added : (xs ys : List ℤ) → length (added xs ys) ≡ length xs
length-added [] ys = refl
length-added (x ∷ xs) [] = refl
length-added (x ∷ xs) (y ∷ ys) = ap (λ n. suc n) (length-added xs ys)

pub get_or-added : (xs ys : List ℤ) (k : ℕ) → k < length xs → length xs ≡ length ys → get_or (added xs ys) k (pos 0) ≡ get_or xs k (pos 0) +ℤ get_or ys k (pos 0)
get_or-added [] ys k h e = absurd (omega arith)
get_or-added (x ∷ xs) [] k h e = absurd (omega arith)
get_or-added (x ∷ xs) (y ∷ ys) zero h e = refl
get_or-added (x ∷ xs) (y ∷ ys) (suc k) h e = get_or-added xs ys k (omega arith) (omega arith)

pub added_all : (acc old src : List ℤ) (i : ℕ) → IsSummed acc old src i → length acc ≡ length old → length old ≡ length src → length old ≤ i → acc ≡ added old src
added_all acc old src i sums n m all =
    same_lists acc (added old src) (omega (arith, length-added old src)) (λ k d h.
    let within : k < length old = omega arith in
    let here = get_or_default acc k d (pos 0) h in
    let sum = sums.below k (omega arith) in
    let lane = get_or-added old src k within m in
    let there = get_or_default (added old src) k d (pos 0) (omega (arith, length-added old src)) in
    cc)

pub map_all : (f : ℤ → ℤ) (out xs : List ℤ) (i : ℕ) → ((k : ℕ) → k < i → get_or out k (pos 0) ≡ f (get_or xs k (pos 0))) → length xs ≡ length out → length out ≤ i → out ≡ map f xs
map_all f out xs i each n all = same_lists out (map f xs) (omega (arith, length-map xs f)) (λ k d h.
    let within : k < length xs = omega arith in
    let here = get_or_default out k d (pos 0) h in
    let value = each k (omega arith) in
    let there = get_or-map f xs k (pos 0) d within in
    cc)

-- one lane more
pub IsSummed_more : (acc old src : List ℤ) (i : ℕ) (x : ℤ) → i < length acc → IsSummed acc old src i → x ≡ get_or old i (pos 0) +ℤ get_or src i (pos 0) → IsSummed (set acc i x) old src (i + 1)
IsSummed_more acc old src i x within sums e = record {
  below = below_more _ i
      (λ k h. let other : k ≢ i = omega arith in get_or-set_other acc i k x (pos 0) other ∙ sums.below k h)
      (get_or-set_same acc i x (pos 0) within ∙ e);
  above = λ k h. let other : k ≢ i = omega arith in get_or-set_other acc i k x (pos 0) other ∙ sums.above k (omega arith);
}

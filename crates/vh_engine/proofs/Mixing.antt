-- What a mix of few sources is, and of one source more.
use Rattle.std.proofs.Common.{◌≡◌, ◌∙◌, ℕ, zero, suc, ◌^◌, ◌<◌, ◌≤◌, ◌+◌, ◌-◌, List, [], ◌∷◌, ◌++◌, length, get_or, map, take, ℤ, pos, negsuc, ◌+ℤ◌, refl, sym, ap, subst, arith, min}
use Rattle.std.specs.Prelude.{replicate, All}
use Rattle.std.proofs.Math.Nat.{min-eq_left}
use Rattle.std.proofs.lemmas.Int.{ints}
use Rattle.std.proofs.lemmas.List.{length-map, length-replicate, get_or-replicate, ext_get_or, map_more}
use Rattle.std.proofs.lemmas.List.Elements.{All-head, All-tail, All-weaker, All-push}
use Rattle.vh_num.proofs.Lanes.{length-added}
use Rattle.vh_num.specs.Samples.{IsWithin, clamp_of, added}
use Rattle.vh_num.specs.Laws.{IsSample, summed, mixed}

-- all are this one
pub filled : (xs : List ℤ) (x : ℤ) (n : ℕ) → length xs ≡ n → ((k : ℕ) (d : ℤ) → k < n → get_or xs k d ≡ x) → xs ≡ replicate n x
filled xs x n long each = ext_get_or x xs (replicate n x) (long ∙ sym (length-replicate n x)) (λ k h.
    let within : k < n = omega (arith, long, h) in
    each k x within ∙ sym (get_or-replicate n k x x within))

-- a sample lies within its range
pub sample_within : (x : ℤ) → IsSample x → IsWithin (2 ^ 31) x
sample_within x is =
    let low = is.low in
    let high = is.high in
    record { low = low; high = omega (arith, ints, high) }

pub samples_within : (xs : List ℤ) → All IsSample xs → All (IsWithin (2 ^ 31)) xs
samples_within xs are = All-weaker IsSample (IsWithin (2 ^ 31)) sample_within xs are

-- the clamp of a sample is that sample
clamp_same : (x : ℤ) → IsSample x → clamp_of x ≡ x
clamp_same (pos n) is = let high = is.high in ap (λ (m : ℕ). pos m) (min-eq_left (omega (arith, ints, high)))
clamp_same (negsuc n) is = let low = is.low in ap (λ (m : ℕ). negsuc m) (min-eq_left (omega (arith, ints, low)))

-- a mix of none is silence
pub mixed_none : (n : ℕ) → mixed n [] ≡ replicate n (pos 0)
mixed_none zero = refl
mixed_none (suc n) = ap (λ (xs : List ℤ). pos 0 ∷ xs) (mixed_none n)

-- a mix of one is that one
pub mixed_one : (n : ℕ) (source : List ℤ) → length source ≡ n → All IsSample source → mixed n (source ∷ []) ≡ source
mixed_one zero [] long are = refl
mixed_one zero (x ∷ xs) long are = absurd (omega (arith, long))
mixed_one (suc n) [] long are = absurd (omega (arith, long))
mixed_one (suc n) (x ∷ xs) long are =
    let alone : pos 0 +ℤ x ≡ x = omega (arith, ints) in
    let here : clamp_of (pos 0 +ℤ x) ≡ x = ap clamp_of alone ∙ clamp_same x (All-head IsSample x xs are) in
    let rest : mixed n (xs ∷ []) ≡ xs = mixed_one n xs (omega (arith, long)) (All-tail IsSample x xs are) in
    ap (λ (y : ℤ). y ∷ mixed n (xs ∷ [])) here ∙ ap (λ (ys : List ℤ). x ∷ ys) rest

-- one source more is added to a sum
pub summed_more : (acc : List ℤ) (sources : List (List ℤ)) (source : List ℤ) → summed acc (sources ++ source ∷ []) ≡ added (summed acc sources) source
summed_more acc [] source = refl
summed_more acc (first ∷ sources) source = summed_more (added acc first) sources source

pub length_summed : (acc : List ℤ) (sources : List (List ℤ)) → length (summed acc sources) ≡ length acc
length_summed acc [] = refl
length_summed acc (source ∷ sources) = length_summed (added acc source) sources ∙ length-added acc source

-- one source more, which is of samples
pub next_source : {A : Type 0} (f : A → List ℤ) (sources : List A) (i n : ℕ) (d : A) (source old new : List ℤ) → i < length sources
    → source ≡ f (get_or sources i d) → All IsSample source
    → old ≡ summed (replicate n (pos 0)) (map f (take i sources)) → All (All IsSample) (map f (take i sources))
    → new ≡ added old source
    → (new ≡ summed (replicate n (pos 0)) (map f (take (i + 1) sources))) × All (All IsSample) (map f (take (i + 1) sources))
next_source f sources i n d source old new within is samples sum all more =
    let next : map f (take (i + 1) sources) ≡ map f (take i sources) ++ source ∷ [] = map_more f sources i d within ∙ ap (λ (s : List ℤ). map f (take i sources) ++ s ∷ []) (sym is) in (
      more ∙ ap (λ (acc : List ℤ). added acc source) sum ∙ sym (summed_more (replicate n (pos 0)) (map f (take i sources)) source) ∙ ap (summed (replicate n (pos 0))) (sym next),
      subst (λ (l : List (List ℤ)). All (All IsSample) l) (sym next) (All-push (All IsSample) (map f (take i sources)) source all samples),
    )

-- the mix of the one source that there is
pub mixed_alone : {A : Type 0} (f : A → List ℤ) (sources : List A) (d : A) (n : ℕ) (source : List ℤ) → length sources ≡ 1
    → source ≡ f (get_or sources 0 d) → length source ≡ n → All IsSample source
    → source ≡ mixed n (map f sources)
mixed_alone f [] d n source one is long samples = absurd (omega (arith, one))
mixed_alone f (x ∷ []) d n source one is long samples = sym (mixed_one n source long samples) ∙ ap (λ (s : List ℤ). mixed n (s ∷ [])) is
mixed_alone f (x ∷ y ∷ sources) d n source one is long samples = absurd (omega (arith, one))

pub length_mixed : (n : ℕ) (sources : List (List ℤ)) → length (mixed n sources) ≡ n
length_mixed n sources = length-map (summed (replicate n (pos 0)) sources) clamp_of ∙ length_summed (replicate n (pos 0)) sources ∙ length-replicate n (pos 0)

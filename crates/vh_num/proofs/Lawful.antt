use Rattle.std.proofs.Common.{◌≡◌, ℕ, zero, suc, ◌+◌, ◌*◌, ◌/◌, ◌^◌, ◌<◌, ◌≤◌, min, List, [], ◌∷◌, length, get_or, map, ℤ, pos, negsuc, ◌+ℤ◌, ◌-ℤ◌, refl, sym, ap, ◌∙◌, inl, inr, arith}
use Rattle.std.specs.Prelude.{replicate, All}
use Rattle.std.proofs.Math.Nat.{mul-le-mul, mul-le-mul_right, mul-add, div-mul-le_self, lt-div-mul-add, div-eq_of_lt-le, div-le_of_le-mul, min-eq_left, min-eq_right}
use Rattle.std.proofs.lemmas.Nat.{le-div}
use Rattle.std.proofs.lemmas.Bool.{cases_lt}
use Rattle.std.proofs.lemmas.List.Elements.{All-cons, All-head, All-nil, All-tail}
use Rattle.std.proofs.lemmas.Int.{ints, by_lt_z}
use Rattle.std.proofs.lemmas.List.{length-map, length-replicate, get_or-replicate, get_or-map, ext_get_or}
use Rattle.std.proofs.lemmas.List.Sorted.{sum_by-IsPermutation, All-permutation}
use Rattle.std.specs.List.{sum_by}
use Rattle.std.proofs.lemmas.List.Sums.{sum_by-cons}
use Rattle.std.specs.List.Sorted.{IsPermutation}
use Rattle.vh_num.proofs.Lanes.{length-added, get_or-added}
use Rattle.vh_num.specs.Values.{index_of, norm_of}
use Rattle.vh_num.specs.Samples.{IsWithin, clamp_of, added}
use Rattle.vh_num.specs.Laws.{IndexOfNorm, QuantTwice, QuantWithin, ClampIsNearest, MixIsClampedSum, AnyOrder, HasRoom, HasLanes, summed, sum_of, in_lane, mixed}

-- a step's value is at least the number of steps less one, but at step 0
norm_high : (i n v : ℕ) → 1 ≤ i → n ≤ 4095 → i * 16777216 < v * n + n → n ≤ v + 1
norm_high i n v some most above =
    elim (cases_lt (v + 1) n) [
      | inl small ↦
          let product : v * n ≤ 4093 * 4095 = mul-le-mul {n₁ = v} {m₁ = n} {n₂ = 4093} {m₂ = 4095} (omega arith) most in
          absurd (omega (arith, product, above))
      | inr large ↦ large
    ]

-- a step's value before the last is less than 2^24
norm_low : (i n v : ℕ) → i < n → v * n ≤ i * 16777216 → v < 16777216
norm_low i n v before below =
    elim (cases_lt v 16777216) [
      | inl small ↦ small
      | inr large ↦
          let product : 16777216 * n ≤ v * n = mul-le-mul_right n large in
          absurd (omega (arith, product, below))
    ]

step_of : (i n v : ℕ) → 1 ≤ n → n ≤ 4095 → i ≤ n → v * n ≤ i * 16777216 → i * 16777216 < v * n + n → min n (v * (n + 1) / 16777216) ≡ i
step_of i n v some most within below above =
    let spread : v * (n + 1) ≡ v * n + v = mul-add v n 1 ∙ ap (λ x. v * n + x) (omega arith) in
    let low : i * 16777216 ≤ v * (n + 1) =
    elim (cases_lt 0 i) [
      | inl later ↦ let high = norm_high i n v later most above in omega (arith, spread, high, above)
      | inr first ↦ omega arith
    ] in
    elim (cases_lt i n) [
      | inl before ↦
          let high = norm_low i n v before below in
          let q : v * (n + 1) / 16777216 ≡ i = div-eq_of_lt-le 16777216 low (omega (arith, spread, high, below)) in
          ap (λ x. min n x) q ∙ min-eq_right within
      | inr last ↦
          let q : i ≤ v * (n + 1) / 16777216 = le-div i (v * (n + 1)) 16777216 (omega arith) low in
          min-eq_left (omega (arith, q)) ∙ omega arith
    ]

pub law_index_of_norm : IndexOfNorm
law_index_of_norm i n some most within =
    step_of i n (norm_of i n) some most within (div-mul-le_self (i * 16777216) n) (lt-div-mul-add some)

pub law_quant_twice : QuantTwice
law_quant_twice v zero most = refl
law_quant_twice v (suc n) most =
    ap (λ i. norm_of i (suc n)) (law_index_of_norm (index_of v (suc n)) (suc n) (omega arith) most (omega arith))

pub law_quant_within : QuantWithin
law_quant_within v zero within = within
law_quant_within v (suc n) within =
    div-le_of_le-mul (suc n) (mul-le-mul_right 16777216 (omega arith))

pub law_clamp_is_nearest : ClampIsNearest
law_clamp_is_nearest (pos a) = (
  record { low = omega (arith, ints); high = omega (arith, ints) },
  λ y is.
      let high = is.high in
      elim (cases_lt a (2 ^ 31)) [
        | inl within ↦
            by_lt_z y (clamp_of (pos a)) (λ lt. inr (omega (arith, ints, lt), omega (arith, ints))) (λ le. inl (omega (arith, ints, within), le))
        | inr beyond ↦ inr (omega (arith, ints, beyond, high), omega (arith, ints))
      ],
)
law_clamp_is_nearest (negsuc a) = (
  record { low = omega (arith, ints); high = omega (arith, ints) },
  λ y is.
      let low = is.low in
      elim (cases_lt a (2 ^ 31)) [
        | inl within ↦
            by_lt_z y (clamp_of (negsuc a)) (λ lt. inr (omega (arith, ints, lt), omega (arith, ints, within))) (λ le. inl (omega (arith, ints), le))
        | inr beyond ↦ inl (omega (arith, ints), omega (arith, ints, beyond, low))
      ],
)

-- a lane of the sum of some sources
lane_of_sum : (n lane : ℕ) (acc : List ℤ) (sources : List (List ℤ)) → length acc ≡ n → HasLanes n sources → lane < n
    → get_or (summed acc sources) lane (pos 0) ≡ get_or acc lane (pos 0) +ℤ sum_of (in_lane lane sources)
lane_of_sum n lane acc [] long lanes within = omega (arith, ints)
lane_of_sum n lane acc (source ∷ sources) long lanes within =
    let as_long : length source ≡ n = All-head (λ x. length {A = ℤ} x ≡ n) source sources lanes in
    let here = get_or-added acc source lane (omega arith) (omega arith) in
    let rest = lane_of_sum n lane (added acc source) sources (length-added acc source ∙ long) (All-tail (λ x. length {A = ℤ} x ≡ n) source sources lanes) within in
    omega (arith, ints, here, rest)

length_summed : (acc : List ℤ) (sources : List (List ℤ)) → length (summed acc sources) ≡ length acc
length_summed acc [] = refl
length_summed acc (source ∷ sources) = length_summed (added acc source) sources ∙ length-added acc source

length_mixed : (n : ℕ) (sources : List (List ℤ)) → length (mixed n sources) ≡ n
length_mixed n sources =
    length-map (summed (replicate n (pos 0)) sources) clamp_of ∙ length_summed (replicate n (pos 0)) sources ∙ length-replicate n (pos 0)

pub law_mix_is_clamped_sum : MixIsClampedSum
law_mix_is_clamped_sum n lane sources lanes within =
    let long : lane < length (summed (replicate n (pos 0)) sources) =
    omega (arith, length_summed (replicate n (pos 0)) sources, length-replicate n (pos 0), within) in
    let sum = lane_of_sum n lane (replicate n (pos 0)) sources (length-replicate n (pos 0)) lanes within in
    let silence = get_or-replicate n lane (pos 0) (pos 0) within in
    get_or-map clamp_of (summed (replicate n (pos 0)) sources) lane (pos 0) (pos 0) long
    ∙ ap clamp_of (sum ∙ omega (arith, ints, silence))

-- an exact sum is what lies above zero less what lies below
above : ℤ → ℕ
above (pos n) = n
above (negsuc n) = 0

below : ℤ → ℕ
below (pos n) = 0
below (negsuc n) = suc n

in_parts : (x : ℤ) → x ≡ pos (above x) -ℤ pos (below x)
unfolding above below
in_parts (pos n) = omega (arith, ints)
in_parts (negsuc n) = omega (arith, ints)

joined_parts : (x s : ℤ) (a b p q : ℕ) → x ≡ pos a -ℤ pos b → s ≡ pos p -ℤ pos q → x +ℤ s ≡ pos (a + p) -ℤ pos (b + q)
joined_parts x s a b p q d e = omega (arith, ints, d, e)

sum_in_parts : (f : List ℤ → ℤ) (sources : List (List ℤ)) → sum_of (map f sources) ≡ pos (sum_by (λ s. above (f s)) sources) -ℤ pos (sum_by (λ s. below (f s)) sources)
sum_in_parts f [] = refl
sum_in_parts f (source ∷ sources) =
    rw (sum_by-cons (λ s. above (f s)) source sources, sum_by-cons (λ s. below (f s)) source sources)
    (joined_parts (f source) (sum_of (map f sources)) (above (f source)) (below (f source)) (sum_by (λ s. above (f s)) sources) (sum_by (λ s. below (f s)) sources) (in_parts (f source)) (sum_in_parts f sources))

same_sum : (f : List ℤ → ℤ) (sources others : List (List ℤ)) → IsPermutation sources others → sum_of (map f others) ≡ sum_of (map f sources)
same_sum f sources others order =
    let up = sum_by-IsPermutation (λ s. above (f s)) sources others order in
    let down = sum_by-IsPermutation (λ s. below (f s)) sources others order in
    let one = sum_in_parts f sources in
    let other = sum_in_parts f others in
    omega (arith, ints, up, down, one, other)

pub law_any_order : AnyOrder
law_any_order n sources others lanes order =
    ext_get_or (pos 0) (mixed n others) (mixed n sources) (length_mixed n others ∙ sym (length_mixed n sources)) (λ lane h.
    let within : lane < n = omega (arith, length_mixed n others, h) in
    law_mix_is_clamped_sum n lane others (All-permutation (λ x. length {A = ℤ} x ≡ n) sources others order lanes) within
    ∙ ap clamp_of (same_sum (λ source. get_or source lane (pos 0)) sources others order)
    ∙ sym (law_mix_is_clamped_sum n lane sources lanes within))

-- a wider range
wider : (b c : ℕ) (x : ℤ) → b ≤ c → IsWithin b x → IsWithin c x
wider b c x le p =
    let low = p.low in
    let high = p.high in
    record { low = omega (arith, ints, low, le); high = omega (arith, ints, high, le) }

all_wider : (b c : ℕ) (xs : List ℤ) → b ≤ c → All (IsWithin b) xs → All (IsWithin c) xs
all_wider b c xs le p = λ k d lt. wider b c _ le (p k d lt)

sum_within : (b c : ℕ) (x y : ℤ) → IsWithin b x → IsWithin c y → IsWithin (b + c) (x +ℤ y)
sum_within b c x y p q =
    let p_low = p.low in
    let p_high = p.high in
    let q_low = q.low in
    let q_high = q.high in
    record { low = omega (arith, ints, p_low, q_low); high = omega (arith, ints, p_high, q_high) }

lanes_within : (b c : ℕ) (xs ys : List ℤ) → All (IsWithin b) xs → All (IsWithin c) ys → All (IsWithin (b + c)) (added xs ys)
lanes_within b c [] ys p q = All-nil (IsWithin (b + c))
lanes_within b c (x ∷ xs) [] p q = all_wider b (b + c) (x ∷ xs) (omega arith) p
lanes_within b c (x ∷ xs) (y ∷ ys) p q =
    All-cons (IsWithin (b + c)) (x +ℤ y) (added xs ys) (sum_within b c x y (All-head (IsWithin b) x xs p) (All-head (IsWithin c) y ys q)) (lanes_within b c xs ys (All-tail (IsWithin b) x xs p) (All-tail (IsWithin c) y ys q))

summed_within : (b : ℕ) (acc : List ℤ) (sources : List (List ℤ)) → All (IsWithin b) acc → All (All (IsWithin (2 ^ 31))) sources → All (IsWithin (b + length sources * 2 ^ 31)) (summed acc sources)
summed_within b acc [] p q = all_wider b (b + 0) acc (omega arith) p
summed_within b acc (source ∷ sources) p q =
    all_wider (b + 2 ^ 31 + length sources * 2 ^ 31) (b + suc (length sources) * 2 ^ 31) (summed (added acc source) sources) (omega arith)
    (summed_within (b + 2 ^ 31) (added acc source) sources (lanes_within b (2 ^ 31) acc source p (All-head (All (IsWithin (2 ^ 31))) source sources q)) (All-tail (All (IsWithin (2 ^ 31))) source sources q))

silence_within : (n : ℕ) → All (IsWithin 0) (replicate n (pos 0))
silence_within zero = All-nil (IsWithin 0)
silence_within (suc n) = All-cons (IsWithin 0) (pos 0) (replicate n (pos 0)) (record { low = omega (arith, ints); high = omega (arith, ints) }) (silence_within n)

pub law_has_room : HasRoom
law_has_room n sources within most =
    all_wider (0 + length sources * 2 ^ 31) (255 * 2 ^ 31) (summed (replicate n (pos 0)) sources) (omega (arith, most)) (summed_within 0 (replicate n (pos 0)) sources (silence_within n) within)

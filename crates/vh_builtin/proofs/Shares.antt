-- Parts of numbers.
use Rattle.std.proofs.Common.{◌≡◌, ap, ℕ, zero, suc, ◌*◌, ◌/◌, ◌^◌, ◌<◌, ◌≤◌, inl, inr, ℤ, pos, negsuc, ◌*ℤ◌, neg_ℤ, ◌+ℤ◌, arith}
use Rattle.std.proofs.lemmas.Int.{ints}
use Rattle.std.proofs.Math.Nat.{div-le_of_le-mul, div-lt_iff_lt-mul, mul-le-mul_left, mul-le-mul_right}
use Rattle.vh_num.specs.Samples.{IsWithin, floor_div, clamp_of}
use Rattle.vh_builtin.specs.Ranges.{IsBetween, IsSample}

-- a share of a number is no longer than it
shared : (n c unit : ℕ) → c ≤ unit → n * c / unit ≤ n
shared n c unit le = div-le_of_le-mul unit (let e : n * c ≤ n * unit = mul-le-mul_left n le in omega (arith, e))

down : (n m unit : ℕ) → 0 < unit → m ≤ suc n * unit → IsBetween (pos 0) (floor_div (neg_ℤ (pos m)) unit) (negsuc n)
down n zero unit some le = inr ((omega (arith, ints)), (omega (arith, ints)))
down n (suc m) unit some le =
    let quotient : m / unit < suc n = (div-lt_iff_lt-mul {k = unit} some).1 le in
    inr ((omega (arith, ints, quotient)), (omega (arith, ints)))

pub share_between : (x : ℤ) (c unit : ℕ) → c ≤ unit → 0 < unit → IsBetween (pos 0) (floor_div (x *ℤ pos c) unit) x
share_between (pos n) c unit le some = inl ((omega (arith, ints)), (let e = shared n c unit le in omega (arith, ints, e)))
share_between (negsuc n) c unit le some = down n (suc n * c) unit some (mul-le-mul_left (suc n) le)

pub share_is_sample : (x : ℤ) (c unit : ℕ) → c ≤ unit → 0 < unit → IsSample x → IsSample (floor_div (x *ℤ pos c) unit)
share_is_sample x c unit le some is =
    elim (share_between x c unit le some) [
      | inl up ↦ record { low = omega (arith, ints, up.0, is.low); high = omega (arith, ints, up.1, is.high) }
      | inr below ↦ record { low = omega (arith, ints, below.0, is.low); high = omega (arith, ints, below.1, is.high) }
    ]

pub pole_is_sample : (z x : ℤ) (c unit : ℕ) → c ≤ unit → 0 < unit → IsSample z → IsSample x → IsSample (z +ℤ floor_div ((x +ℤ neg_ℤ z) *ℤ pos c) unit)
pole_is_sample z x c unit le some is too =
    elim (share_between (x +ℤ neg_ℤ z) c unit le some) [
      | inl up ↦ record { low = omega (arith, ints, up.0, is.low); high = omega (arith, ints, up.1, too.high) }
      | inr below ↦ record { low = omega (arith, ints, below.0, too.low); high = omega (arith, ints, below.1, is.high) }
    ]

-- a product of a sample is small
pub product_within : (x : ℤ) (f : ℕ) → IsSample x → f ≤ 2 ^ 24 → IsWithin (2 ^ 55) (x *ℤ pos f)
product_within (pos n) f is le =
    let h = is.high in
    let n_le : n ≤ 2 ^ 31 = omega (arith, ints, h) in
    let m : n * f ≤ 2 ^ 31 * f = mul-le-mul_right f n_le in
    record { low = omega (arith, ints); high = omega (arith, ints, m, le) }
product_within (negsuc n) f is le =
    let l = is.low in
    let n_le : suc n ≤ 2 ^ 31 = omega (arith, ints, l) in
    let m : suc n * f ≤ 2 ^ 31 * f = mul-le-mul_right f n_le in
    negative (suc n * f) (omega (arith, m, le))
  where
    negative : (k : ℕ) → k ≤ 2 ^ 55 → IsWithin (2 ^ 55) (neg_ℤ (pos k))
    negative k le = record { low = omega (arith, ints, le); high = omega (arith, ints) }

-- a sample is its own clamp
pub clamp_sample : (x : ℤ) → IsSample x → clamp_of x ≡ x
clamp_sample (pos n) is = ap (λ k. pos k) (let h = is.high in omega (arith, ints, h))
clamp_sample (negsuc n) is = ap (λ k. negsuc k) (let l = is.low in omega (arith, ints, l))

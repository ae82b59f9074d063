-- Powers of two, and samples without their lowest bits.
use Rattle.std.proofs.Common.{◌≡◌, ℕ, suc, ◌+◌, ◌-◌, ◌*◌, ◌/◌, ◌^◌, ◌<◌, ◌≤◌, ℤ, pos, negsuc, ◌*ℤ◌, neg_ℤ, sym, ap, subst, ◌∙◌, arith}
use Rattle.std.proofs.lemmas.Int.{ints}
use Rattle.std.proofs.lemmas.Nat.{pow-add}
use Rattle.std.proofs.Math.Nat.{div-lt_iff_lt-mul, div-mul-le_self, mul-le-mul_right, pow-le-pow_right, one-le-pow}
use Rattle.vh_num.specs.Samples.{floor_div}
use Rattle.vh_builtin.specs.Ranges.{IsSample}

pub power_within : (bits : ℕ) → bits ≤ 15 → 2 ^ bits ≤ 32768
power_within bits le = let e : 2 ^ bits ≤ 2 ^ 15 = pow-le-pow_right (omega arith) le in e

some_power : (bits : ℕ) → 1 ≤ 2 ^ bits
some_power bits = one-le-pow bits 2 (omega arith)

-- a number below 2^31 rounded up to these multiples is at most 2^31
rounded_up : (a bits : ℕ) → bits ≤ 15 → a < 2 ^ 31 → suc (a / 2 ^ bits) * 2 ^ bits ≤ 2 ^ 31
rounded_up a bits le lt =
    let parts : 2 ^ 31 ≡ 2 ^ (31 - bits) * 2 ^ bits = (let e : 31 ≡ (31 - bits) + bits = omega (arith, le) in ap (λ k. 2 ^ k) e) ∙ pow-add 2 (31 - bits) bits in
    let below : a / 2 ^ bits < 2 ^ (31 - bits) = (div-lt_iff_lt-mul {k = 2 ^ bits} (some_power bits)).1 (subst (λ n. a < n) parts lt) in
    subst (λ n. suc (a / 2 ^ bits) * 2 ^ bits ≤ n) (sym parts) (mul-le-mul_right (2 ^ bits) below)

neg_low : (m : ℕ) → m ≤ 2 ^ 31 → IsSample (neg_ℤ (pos m))
neg_low m le = record { low = omega (arith, ints, le); high = omega (arith, ints) }

pub cut_is_sample : (x : ℤ) (bits : ℕ) → bits ≤ 15 → IsSample x → IsSample (floor_div x (2 ^ bits) *ℤ pos (2 ^ bits))
cut_is_sample (pos a) bits le is =
    let most : a / 2 ^ bits * 2 ^ bits ≤ a = div-mul-le_self a (2 ^ bits) in
    record { low = omega (arith, ints); high = (let h = is.high in omega (arith, ints, most, h)) }
cut_is_sample (negsuc a) bits le is = neg_low (suc (a / 2 ^ bits) * 2 ^ bits) (rounded_up a bits le (let l = is.low in omega (arith, ints, l)))

-- A mix of two numbers lies on the way from one to the other.
use Rattle.std.proofs.Common.{◌≡◌, ℕ, zero, suc, ◌+◌, ◌-◌, ◌*◌, ◌/◌, ◌^◌, ◌<◌, ◌≤◌, ℤ, pos, negsuc, ◌*ℤ◌, neg_ℤ, ◌≤ℤ◌, ◌<ℤ◌, ◌+ℤ◌, sym, ap, ap₂, ◌∙◌, arith}
use Rattle.std.proofs.lemmas.Int.{ints}
use Rattle.std.proofs.Math.IntN.{pred_ℤ, suc_ℤ-+ℤ, pred_ℤ-+ℤ, suc_ℤ-*ℤ, pred_ℤ-*ℤ, zero-*ℤ, *ℤ_comm, +ℤ_idl}
use Rattle.vh_num.specs.Samples.{floor_div, clamp_of}
use Rattle.vh_builtin.specs.Ranges.{IsSample}
use Rattle.vh_builtin.specs.Delay.{delayed_of}
use Rattle.vh_builtin.specs.OnePole.{pole_of}
use Rattle.vh_builtin.proofs.Shares.{pole_is_sample, clamp_sample}

-- a product is linear in its first factor
plus_times : (x y k : ℤ) → (x +ℤ y) *ℤ k ≡ (x *ℤ k) +ℤ (y *ℤ k)
plus_times (pos zero) y k = ap (λ (z : ℤ). z *ℤ k) (+ℤ_idl y) ∙ sym (ap (λ (z : ℤ). z +ℤ (y *ℤ k)) (zero-*ℤ k) ∙ +ℤ_idl (y *ℤ k))
plus_times (pos (suc n)) y k =
    let rest = plus_times (pos n) y k in
    let one : (pos n +ℤ y) *ℤ k +ℤ k ≡ ((pos n *ℤ k) +ℤ k) +ℤ (y *ℤ k) = omega (arith, ints, rest) in
    ap (λ (z : ℤ). z *ℤ k) (suc_ℤ-+ℤ (pos n) y) ∙ suc_ℤ-*ℤ (pos n +ℤ y) k ∙ one ∙ sym (ap (λ (z : ℤ). z +ℤ (y *ℤ k)) (suc_ℤ-*ℤ (pos n) k))
plus_times (negsuc zero) y k =
    let first = pred_ℤ-*ℤ (pos zero) k in
    let sum = pred_ℤ-+ℤ (pos zero) y in
    let whole = pred_ℤ-*ℤ (pos zero +ℤ y) k in
    let none = zero-*ℤ k in
    let same : (pos zero +ℤ y) *ℤ k ≡ y *ℤ k = ap (λ (z : ℤ). z *ℤ k) (+ℤ_idl y) in
    ap (λ (z : ℤ). z *ℤ k) sum ∙ (let e : pred_ℤ (pos zero +ℤ y) *ℤ k ≡ (negsuc zero *ℤ k) +ℤ (y *ℤ k) = omega (arith, ints, first, whole, none, same) in e)
plus_times (negsuc (suc n)) y k =
    let rest = plus_times (negsuc n) y k in
    let first = pred_ℤ-*ℤ (negsuc n) k in
    let whole = pred_ℤ-*ℤ (negsuc n +ℤ y) k in
    ap (λ (z : ℤ). z *ℤ k) (pred_ℤ-+ℤ (negsuc n) y) ∙ (let e : pred_ℤ (negsuc n +ℤ y) *ℤ k ≡ (negsuc (suc n) *ℤ k) +ℤ (y *ℤ k) = omega (arith, ints, first, whole, rest) in e)

-- the quotient is the number whose product with 2^24 is the last one not above
floor_is : (z q : ℤ) → (q *ℤ pos 16777216) ≤ℤ z → z <ℤ ((q *ℤ pos 16777216) +ℤ pos 16777216) → floor_div z 16777216 ≡ q
floor_is (pos a) (pos n) low high = ap (λ m. pos m) (let l : n * 16777216 ≤ a = omega (arith, ints, low) in let h : a < n * 16777216 + 16777216 = omega (arith, ints, high) in let e : a / 16777216 ≡ n = omega (arith, l, h) in e)
floor_is (pos a) (negsuc n) low high = absurd (omega (arith, ints, high))
floor_is (negsuc a) (pos n) low high = absurd (omega (arith, ints, low))
floor_is (negsuc a) (negsuc n) low high = ap (λ m. negsuc m) (let l : suc a ≤ suc n * 16777216 = omega (arith, ints, low) in let h : n * 16777216 < suc a = omega (arith, ints, high) in let e : a / 16777216 ≡ n = omega (arith, l, h) in e)

record IsFloor (z q : ℤ) : Type 0 where
  pub low : (q *ℤ pos 16777216) ≤ℤ z
  pub high : z <ℤ ((q *ℤ pos 16777216) +ℤ pos 16777216)

floor_of : (z : ℤ) → IsFloor z (floor_div z 16777216)
floor_of (pos a) = record { low = omega (arith, ints); high = omega (arith, ints) }
floor_of (negsuc a) = record { low = omega (arith, ints); high = omega (arith, ints) }

-- a number times the parts of 2^24
parts : (x : ℤ) (m : ℕ) → m ≤ 16777216 → (x *ℤ pos (16777216 - m)) +ℤ (x *ℤ pos m) ≡ x *ℤ pos 16777216
parts x m le =
    ap₂ (λ (a b : ℤ). a +ℤ b) (*ℤ_comm x (pos (16777216 - m))) (*ℤ_comm x (pos m)) ∙ sym (plus_times (pos (16777216 - m)) (pos m) x)
    ∙ ap (λ (y : ℤ). y *ℤ x) (let e : pos (16777216 - m) +ℤ pos m ≡ pos 16777216 = omega (arith, ints, le) in e) ∙ *ℤ_comm (pos 16777216) x

-- a number and its negative
no_sum : (x k : ℤ) → (neg_ℤ x *ℤ k) +ℤ (x *ℤ k) ≡ pos 0
no_sum x k = sym (plus_times (neg_ℤ x) x k) ∙ ap (λ (y : ℤ). y *ℤ k) (let e : neg_ℤ x +ℤ x ≡ pos 0 = omega (arith, ints) in e) ∙ zero-*ℤ k

mix_is : (x w : ℤ) (m : ℕ) → m ≤ 16777216 → floor_div ((x *ℤ pos (16777216 - m)) +ℤ (w *ℤ pos m)) 16777216 ≡ pole_of m x w
mix_is x w m le =
    let q = floor_div ((w +ℤ neg_ℤ x) *ℤ pos m) 16777216 in
    let is = floor_of ((w +ℤ neg_ℤ x) *ℤ pos m) in
    let low = is.low in
    let high = is.high in
    let product = plus_times x q (pos 16777216) in
    let way = plus_times w (neg_ℤ x) (pos m) in
    let none = no_sum x (pos m) in
    let whole = parts x m le in
    floor_is ((x *ℤ pos (16777216 - m)) +ℤ (w *ℤ pos m)) (x +ℤ q) (omega (arith, ints, low, product, way, none, whole)) (omega (arith, ints, high, product, way, none, whole))

-- what a delay gives out is a way from the sample to what was kept
pub delayed_is : (x w : ℤ) (mix : ℕ) → mix ≤ 2 ^ 24 → IsSample x → IsSample w → pole_of mix x w ≡ delayed_of mix x w
delayed_is x w mix le is too =
    sym (ap clamp_of (mix_is x w mix le) ∙ clamp_sample (pole_of mix x w) (pole_is_sample x w mix (2 ^ 24) le (omega arith) is too))

-- No value is above 1.0.
use Rattle.std.proofs.Common.{◌≡◌, ℕ, ◌-◌, ◌^◌, ◌<◌, ◌≤◌, arith}
use Rattle.std.proofs.Math.Nat.{div-le_of_le-mul, mul-le-mul_right}
use Rattle.vh_num.proofs.Lawful.{law_quant_within}
use Rattle.vh_num.specs.Values.{quant_of}
use Rattle.vh_lane.specs.Values.{on_line}

pub on_line_within : (from to : ℕ × ℕ) (s : ℕ) → from.0 ≤ s → s < to.0 → from.1 ≤ 2 ^ 24 → to.1 ≤ 2 ^ 24 → on_line from to s ≤ 2 ^ 24
on_line_within from to s after before a b =
    let first = mul-le-mul_right (to.0 - s) a in
    let second = mul-le-mul_right (s - from.0) b in
    div-le_of_le-mul (to.0 - from.0) (omega (arith, first, second))

pub quant_no_more : (v n result : ℕ) → result ≡ quant_of v n → v ≤ 2 ^ 24 → result ≤ 2 ^ 24
quant_no_more v n result is within = let most = law_quant_within v n within in omega (arith, is, most)

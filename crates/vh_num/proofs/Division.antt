use Rattle.std.proofs.Common.{◌≡◌, ℕ, zero, suc, ◌+◌, ◌*◌, ◌/◌, ◌<◌, ◌≤◌, ℤ, pos, negsuc, neg_ℤ, ◌+ℤ◌, ◌*ℤ◌, ◌<ℤ◌, sym, ap, subst, ◌∙◌, arith}
use Rattle.std.proofs.lemmas.Int.{ints}
use Rattle.std.proofs.Math.IntN.{zero-*ℤ, negsuc-*ℤ-pos}
use Rattle.std.proofs.Math.Nat.{div-mul-le_self, lt-div-mul-add}
use Rattle.vh_num.specs.Laws.{FloorDivRoundsDown}

-- the next multiple above a negative one
next_multiple : (q d : ℕ) → (negsuc q +ℤ pos 1) *ℤ pos d ≡ neg_ℤ (pos (q * d))
next_multiple zero d =
    let none = zero-*ℤ (pos d) in
    omega (arith, ints, none)
next_multiple (suc q) d =
    let next : negsuc (suc q) +ℤ pos 1 ≡ negsuc q = omega (arith, ints) in
    ap (λ (z : ℤ). z *ℤ pos d) next ∙ negsuc-*ℤ-pos q d

pub law_floor_div_rounds_down : FloorDivRoundsDown
law_floor_div_rounds_down (pos a) d some =
    let most : a / d * d ≤ a = div-mul-le_self a d in
    let least : a < a / d * d + d = lt-div-mul-add some in
    (omega (arith, ints, most), omega (arith, ints, least))
law_floor_div_rounds_down (negsuc a) d some =
    let most : a / d * d ≤ a = div-mul-le_self a d in
    let least : a < a / d * d + d = lt-div-mul-add some in
    (omega (arith, ints, least), subst (λ z. negsuc a <ℤ z) (sym (next_multiple (a / d) d)) (omega (arith, ints, most)))

use Rattle.std.proofs.Common.{◌≡◌, ℕ, ◌+◌, ◌*◌, ◌-◌, ◌/◌, ◌%◌, ◌<◌, ◌≤◌, min, Bool, true, false, ◌&&◌, ltb, leb, refl, sym, ◌⊎◌, ⊎_elim, arith}
use Rattle.vh_wav.specs.Judged.{align_of}
use Rattle.std.proofs.lemmas.Bool.{leb-true, le-leb, false≢true, cases_lt}
use Rattle.std.proofs.lemmas.Bool.Decides.{Decides-ltb}
use Rattle.std.proofs.Math.Nat.{mul-le-mul_left}

bool_same : (a b : Bool) → (a ≡ true → b ≡ true) → (b ≡ true → a ≡ true) → a ≡ b
bool_same true b f g = sym (f refl)
bool_same false true f g = absurd (false≢true (g refl))
bool_same false false f g = refl

and_true : (a b : Bool) → a ≡ true → b ≡ true → (a && b) ≡ true
and_true true b e f = f
and_true false b e f = absurd (false≢true e)

and_parts : (a b : Bool) → (a && b) ≡ true → (a ≡ true) × (b ≡ true)
and_parts true b e = (refl, e)
and_parts false b e = absurd (false≢true e)

-- how many frames are there, of those that were asked for
pub whole_count : (size at align from frames n left got i : ℕ) → 1 ≤ align → left ≡ min (frames - from) n → got ≡ min (left * align) (size - (at + from * align)) → i < n → ltb i (got / align) ≡ (ltb (from + i) frames && leb (at + (from + i + 1) * align) size)
whole_count size at align from frames n left got i some left_is got_is within =
    let q : ℕ = got / align in
    let rest : align * q + got % align ≡ got = omega arith in
    let less : got % align < align = omega arith in
    bool_same (ltb i q) (ltb (from + i) frames && leb (at + (from + i + 1) * align) size)
    (λ h.
    let below : i < q = (Decides-ltb i q).0 h in
    let most : align * (i + 1) ≤ align * q = mul-le-mul_left align (omega arith) in
    let asked : i + 1 ≤ left = ⊎_elim (λ (lt : i < left). omega arith) (λ (ge : left ≤ i). let low = mul-le-mul_left align ge in absurd (omega (arith, low, most))) (cases_lt i left) in
    and_true _ _ ((Decides-ltb (from + i) frames).1 (omega arith)) (le-leb _ _ (omega (arith, most))))
    (λ h.
    let parts = and_parts _ _ h in
    let inside : from + i < frames = (Decides-ltb (from + i) frames).0 parts.0 in
    let fits : at + (from + i + 1) * align ≤ size = leb-true _ _ parts.1 in
    let most : align * (i + 1) ≤ align * left = mul-le-mul_left align (omega arith) in
    let there : align * (i + 1) ≤ got = omega (arith, most) in
    (Decides-ltb i q).1 (⊎_elim (λ (lt : i < q). lt) (λ (ge : q ≤ i). let up : align * (q + 1) ≤ align * (i + 1) = mul-le-mul_left align (omega arith) in absurd (omega (arith, up, there))) (cases_lt i q)))

-- a frame has bytes
pub align_some : (channels bits : ℕ) → (channels ≡ 1) ⊎ (channels ≡ 2) → (bits ≡ 16) ⊎ (bits ≡ 24) → 1 ≤ align_of channels bits
align_some channels bits on width =
    ⊎_elim
    (λ (one : channels ≡ 1). ⊎_elim (λ (f : bits ≡ 16). rw (one, f) (omega arith)) (λ (f : bits ≡ 24). rw (one, f) (omega arith)) width)
    (λ (two : channels ≡ 2). ⊎_elim (λ (f : bits ≡ 16). rw (two, f) (omega arith)) (λ (f : bits ≡ 24). rw (two, f) (omega arith)) width)
    on

-- six at most
pub align_most : (channels bits : ℕ) → (channels ≡ 1) ⊎ (channels ≡ 2) → (bits ≡ 16) ⊎ (bits ≡ 24) → align_of channels bits ≤ 6
align_most channels bits on width =
    ⊎_elim
    (λ (one : channels ≡ 1). ⊎_elim (λ (f : bits ≡ 16). rw (one, f) (omega arith)) (λ (f : bits ≡ 24). rw (one, f) (omega arith)) width)
    (λ (two : channels ≡ 2). ⊎_elim (λ (f : bits ≡ 16). rw (two, f) (omega arith)) (λ (f : bits ≡ 24). rw (two, f) (omega arith)) width)
    on

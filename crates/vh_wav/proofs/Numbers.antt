-- Numbers in little-endian bytes, and samples in two's complement.
use Rattle.std.proofs.Common.{◌≡◌, ℕ, ◌-◌, ◌/◌, ◌%◌, ◌^◌, ◌<◌, ◌≤◌, min, true, false, ltb, suc, ℤ, pos, negsuc, refl, ap, ◌∙◌, arith}
use Rattle.std.proofs.lemmas.Bool.Decides.{Decides-ltb}
use Rattle.vh_files.specs.Fields.{number_of}
use Rattle.vh_wav.specs.Samples.{signed}
use Rattle.vh_wav.specs.Text.{little_bytes, rounded, sample_bytes}

pub lt_yes : (a b : ℕ) → a < b → ltb a b ≡ true
lt_yes a b h = (Decides-ltb a b).1 h

pub lt_no : (a b : ℕ) → b ≤ a → ltb a b ≡ false
lt_no a b h = elim (ltb a b) as (λ t. (t ≡ true → a < b) → t ≡ false) [ true ↦ λ f. absurd (let lt : a < b = f refl in omega arith) | false ↦ λ f. refl ] (Decides-ltb a b).0

-- a number in bytes, and back
pub number16 : (x : ℕ) → number_of (little_bytes 2 x) ≡ x % 2 ^ 16
number16 x = omega arith

pub number24 : (x : ℕ) → number_of (little_bytes 3 x) ≡ x % 2 ^ 24
number24 x = omega arith

pub number32 : (x : ℕ) → number_of (little_bytes 4 x) ≡ x % 2 ^ 32
number32 x = omega arith

-- a number of so many bits, in two's complement and back
signed_small : (bits n : ℕ) → n < 2 ^ (bits - 1) → signed bits n ≡ pos n
signed_small bits n h = rw (lt_yes n (2 ^ (bits - 1)) h) refl

signed_large : (bits m : ℕ) → 2 ^ (bits - 1) ≤ m → signed bits m ≡ negsuc (2 ^ bits - suc m)
signed_large bits m h = rw (lt_no m (2 ^ (bits - 1)) h) refl

pub back16 : (x : ℤ) → signed 16 (number_of (sample_bytes 16 x)) ≡ rounded 16 x
back16 (pos n) =
    let m : ℕ = min (n / 256) (2 ^ 15 - 1) in
    let number : number_of (little_bytes 2 m) ≡ m = number16 m ∙ omega arith in
    ap (signed 16) number ∙ signed_small 16 m (omega arith)
back16 (negsuc n) =
    let m : ℕ = min (n / 256) (2 ^ 15 - 1) in
    let number : number_of (little_bytes 2 (2 ^ 32 - suc m)) ≡ 2 ^ 16 - suc m = number16 (2 ^ 32 - suc m) ∙ omega arith in
    ap (signed 16) number ∙ signed_large 16 (2 ^ 16 - suc m) (omega arith) ∙ ap negsuc (omega arith)

pub back24 : (x : ℤ) → signed 24 (number_of (sample_bytes 24 x)) ≡ rounded 24 x
back24 (pos n) =
    let m : ℕ = min n (2 ^ 23 - 1) in
    let number : number_of (little_bytes 3 m) ≡ m = number24 m ∙ omega arith in
    ap (signed 24) number ∙ signed_small 24 m (omega arith)
back24 (negsuc n) =
    let m : ℕ = min n (2 ^ 23 - 1) in
    let number : number_of (little_bytes 3 (2 ^ 32 - suc m)) ≡ 2 ^ 24 - suc m = number24 (2 ^ 32 - suc m) ∙ omega arith in
    ap (signed 24) number ∙ signed_large 24 (2 ^ 24 - suc m) (omega arith) ∙ ap negsuc (omega arith)

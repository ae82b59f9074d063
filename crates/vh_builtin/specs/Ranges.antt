-- Numbers that lie between others.
use Rattle.std.specs.Prelude.{◌-◌, ◌^◌, ◌⊎◌, ℤ, pos, neg_ℤ, ◌≤ℤ◌}

-- a number of 32 bits with sign
pub record IsSample (x : ℤ) : Type 0 where
  pub low : neg_ℤ (pos (2 ^ 31)) ≤ℤ x
  pub high : x ≤ℤ pos (2 ^ 31 - 1)

-- y lies between x and z
abbrev pub IsBetween : ℤ → ℤ → ℤ → Type 0
IsBetween x y z = ((x ≤ℤ y) × (y ≤ℤ z)) ⊎ ((z ≤ℤ y) × (y ≤ℤ x))

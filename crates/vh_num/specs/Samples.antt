use Rattle.std.specs.Prelude.{ℕ, ◌-◌, ◌/◌, ◌^◌, min, List, [], ◌∷◌, ℤ, pos, negsuc, ◌+ℤ◌, neg_ℤ, ◌≤ℤ◌}

-- the nearest number of 32 bits with sign: of -2^31 to 2^31 - 1
abbrev pub clamp_of : ℤ → ℤ
clamp_of (pos n) = pos (min n (2 ^ 31 - 1))
clamp_of (negsuc n) = negsuc (min n (2 ^ 31 - 1))

-- x lies at most n from 0
pub record IsWithin (n : ℕ) (x : ℤ) : Type 0 where
  pub low : neg_ℤ (pos n) ≤ℤ x
  pub high : x ≤ℤ pos n

-- the sum of two lists, lane by lane
abbrev pub added : List ℤ → List ℤ → List ℤ
added [] ys = []
added (x ∷ xs) [] = x ∷ xs
added (x ∷ xs) (y ∷ ys) = (x +ℤ y) ∷ added xs ys

-- the quotient, rounded down
abbrev pub floor_div : ℤ → ℕ → ℤ
floor_div (pos a) d = pos (a / d)
floor_div (negsuc a) d = negsuc (a / d)

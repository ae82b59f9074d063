-- Numbers in files: little endian.
use Rattle.std.specs.Prelude.{ℕ, ◌+◌, ◌*◌, List, [], ◌∷◌, take, drop}

-- the number whose bytes these are, the least first
abbrev pub number_of : List ℕ → ℕ
number_of [] = 0
number_of (b ∷ bs) = b + 256 * number_of bs

-- the number in the n bytes from this place on
abbrev pub field_at : List ℕ → ℕ → ℕ → ℕ
field_at bytes at n = number_of (take n (drop at bytes))

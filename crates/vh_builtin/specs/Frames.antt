-- Words that the laws of the built-in classes are written in.
use Rattle.std.specs.Prelude.{ℕ, max, List, [], ◌∷◌, slice_index_or, ℤ, pos, negsuc, ◌+◌}
use Rattle.vh_num.specs.Values.{index_of}

-- the value, 0 to 2^24, of the parameter at a place of the class's table
abbrev pub value : List ℕ → ℕ → ℕ
value values place = slice_index_or values place 0

-- the step of the one of step count n at a place
abbrev pub step : List ℕ → ℕ → ℕ → ℕ
step values place n = index_of (value values place) n

-- a sample without its sign
abbrev pub magnitude : ℤ → ℕ
magnitude (pos n) = n
magnitude (negsuc n) = n + 1

-- the loudest of a frame's samples
abbrev pub loudest : List ℤ → ℕ
loudest [] = 0
loudest (x ∷ xs) = max (magnitude x) (loudest xs)

-- The lines of a text.
use Rattle.std.specs.Prelude.{ℕ, ◌-◌, ◌==◌, List, [], ◌∷◌, length, take, map, slice_index, if◌then◌else◌}

-- a byte at the front of the first line
abbrev pub begin_with : ℕ → List (List ℕ) → List (List ℕ)
begin_with b [] = (b ∷ []) ∷ []
begin_with b (line ∷ lines) = (b ∷ line) ∷ lines

-- the parts that end before a byte 10 or with the text
abbrev pub parts_of : List ℕ → List (List ℕ)
parts_of [] = []
parts_of (b ∷ bs) = if b == 10 then [] ∷ parts_of bs else begin_with b (parts_of bs)

-- the first part, and what follows the byte 10 that ends it
abbrev pub first_part : List ℕ → List ℕ
first_part [] = []
first_part (b ∷ bs) = if b == 10 then [] else b ∷ first_part bs

abbrev pub after_part : List ℕ → List ℕ
after_part [] = []
after_part (b ∷ bs) = if b == 10 then bs else after_part bs

-- a part without the byte 13 at its end
abbrev pub without_return : List ℕ → List ℕ
without_return part = if slice_index part (length part - 1) == 13 then take (length part - 1) part else part

abbrev pub lines_of : List ℕ → List (List ℕ)
lines_of text = map without_return (parts_of text)

-- How a number with four decimals is read.
use Rattle.std.specs.Prelude.{ℕ, ◌+◌, ◌*◌, ◌-◌, List, slice_index}

-- the ten-thousandths of a number with one digit before the point and four behind it
abbrev pub parts_of : List ℕ → ℕ
parts_of text = (slice_index text 0 - 48) * 10000 + (slice_index text 2 - 48) * 1000 + (slice_index text 3 - 48) * 100 + (slice_index text 4 - 48) * 10 + (slice_index text 5 - 48)

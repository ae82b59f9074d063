-- Counts of 64 bits that stay at their last value.
use Rattle.std.specs.Prelude.{ℕ, ◌+◌, ◌-◌, ◌^◌, min}

abbrev pub raised_by : ℕ → ℕ → ℕ
raised_by more count = min (2 ^ 64 - 1) (count + more)

abbrev pub raised : ℕ → ℕ
raised count = raised_by 1 count

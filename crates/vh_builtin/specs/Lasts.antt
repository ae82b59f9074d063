-- The last of some samples.
use Rattle.std.specs.Prelude.{ℕ, zero, suc, List, slice_index_or, ℤ, pos}

abbrev pub last_after : ℤ → List ℤ → ℕ → ℤ
last_after before samples zero = before
last_after before samples (suc k) = slice_index_or samples k (pos 0)

-- A peak after some samples.
use Rattle.std.specs.Prelude.{ℕ, zero, suc, List, slice_index_or, ℤ, pos}
use Rattle.vh_builtin.specs.Meter.{peak_of}

abbrev pub peak_after : ℤ → List ℤ → ℕ → ℤ
peak_after peak samples zero = peak
peak_after peak samples (suc k) = peak_of (peak_after peak samples k) (slice_index_or samples k (pos 0))

-- What is seen of the memory of a link.
use Rattle.std.specs.Prelude.{◌≤◌, ◌*◌, ℕ, List, length, ℤ}

pub record Sized : Type 0 where
  pub channels : ℕ
  pub max : ℕ

abbrev pub sized : ℕ → ℕ → Sized
sized channels max = record { channels = channels; max = max }

-- room for the bytes of so many frames, and for their samples
pub record HaveSpace (channels max : ℕ) (bytes : List ℕ) (samples : List ℤ) : Type 0 where
  pub most : max ≤ 8192
  pub bytes_room : 6 * max ≤ length bytes
  pub samples_room : channels * max ≤ length samples

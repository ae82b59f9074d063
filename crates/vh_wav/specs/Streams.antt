-- Frames that are read one after another.
use Rattle.std.specs.Prelude.{◌≡◌, ◌<◌, ℕ, List, slice_index_or, ℤ}
use Rattle.vh_num.specs.Frames.{Frame, frame_at}
use Rattle.vh_wav.specs.Frames.{silence}

-- n frames that stand channel after channel are the first of these, and silence past the last
abbrev pub ArePulled : ℕ → List Frame → ℕ → List ℤ → Type 0
ArePulled channels input n samples = (place : ℕ) → place < n → frame_at channels n samples place ≡ slice_index_or input place (silence channels)

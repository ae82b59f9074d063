-- Samples that stand channel after channel.
use Rattle.std.specs.Prelude.{◌≡◌, ℕ, ◌+◌, ◌<◌, List, ℤ}
use Rattle.vh_num.specs.Frames.{frame_at}

-- The frames of one list from a place on, n of each channel, are those of another from its place on, m of each
-- channel, so many of them.
abbrev pub AreFrames : ℕ → ℕ → List ℤ → ℕ → ℕ → ℕ → List ℤ → ℕ → Type 0
AreFrames channels n samples from count m others at =
    (place : ℕ) → place < count → frame_at channels m others (at + place) ≡ frame_at channels n samples (from + place)

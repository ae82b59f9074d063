-- Samples made of samples, each of the one at its place.
use Rattle.std.specs.Prelude.{◌≡◌, ℕ, ◌<◌, List, slice_index_or, ℤ, pos}

-- the first so many
abbrev pub AreEach : (ℤ → ℤ) → ℕ → List ℤ → List ℤ → Type 0
AreEach f size main out = (place : ℕ) → place < size → slice_index_or out place (pos 0) ≡ f (slice_index_or main place (pos 0))

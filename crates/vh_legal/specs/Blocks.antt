-- The samples at which blocks begin.
use Rattle.std.specs.Prelude.{◌≡◌, ◌<◌, ℕ, List, [], length, map, take, sum, Contains, ◌⊎◌}
use Rattle.vh_cut.specs.declared.piece.Piece.{Piece}
use Rattle.vh_cut.specs.Cut.{pieces_of}

abbrev pub starts_of : List Piece → List ℕ
starts_of pieces = map (λ piece. piece.start) pieces

-- a piece begins there, where nothing stops one, or there are no more samples
abbrev pub IsAtBlock : ℕ → List ℕ → ℕ → Type 0
IsAtBlock samples pattern sample = (sample ≡ samples) ⊎ Contains (starts_of (pieces_of samples pattern [])) sample

-- the sizes before one of these end there
abbrev pub IsTurn : List ℕ → ℕ → Type 0
IsTurn pattern sample = (k : ℕ) × (k < length pattern) × (sum (take k pattern) ≡ sample)

-- How a rendering is cut into pieces.
use Rattle.std.specs.Prelude.{◌≤◌, ◌<◌, ⊤, ℕ, zero, suc, ◌+◌, ◌-◌, ◌%◌, min, nat_lt, List, [], ◌∷◌, length, slice_index, All, if◌then◌else◌}
use Rattle.vh_cut.specs.declared.piece.Piece.{Piece}

-- a pattern of sizes: 1 to 16 of them, each from 1 to 8192
pub record IsPattern (pattern : List ℕ) : Type 0 where
  pub some : 1 ≤ length pattern
  pub most : length pattern ≤ 16
  pub sizes : All (λ size. (1 ≤ size) × (size ≤ 8192)) pattern

-- the samples from `at` to the nearest stop after it, and at most so many
abbrev pub to_stop : ℕ → ℕ → List ℕ → ℕ
to_stop at most [] = most
to_stop at most (stop ∷ stops) = if nat_lt at stop then min (stop - at) (to_stop at most stops) else to_stop at most stops

-- the stops from the first after `at` on
abbrev pub later_stops : ℕ → List ℕ → List ℕ
later_stops at [] = []
later_stops at (stop ∷ stops) = if nat_lt at stop then stop ∷ stops else later_stops at stops

-- the first of these stops, if there is one, is after `at`
abbrev pub AreLater : ℕ → List ℕ → Type 0
AreLater at [] = ⊤
AreLater at (stop ∷ stops) = at < stop

-- the length of piece number k, which begins at `at`: the least of the size whose turn it is, the samples
-- left, and those to the nearest later stop
abbrev pub piece_length : ℕ → List ℕ → List ℕ → ℕ → ℕ → ℕ
piece_length samples pattern stops k at = to_stop at (min (slice_index pattern (k % length pattern)) (samples - at)) stops

-- the pieces from number k on, which begins at `at`, and at most so many
abbrev pub pieces_from : ℕ → ℕ → List ℕ → List ℕ → ℕ → ℕ → List Piece
pieces_from zero samples pattern stops k at = []
pieces_from (suc most) samples pattern stops k at =
    if nat_lt at samples
    then record { start = at; length = piece_length samples pattern stops k at } ∷ pieces_from most samples pattern stops (k + 1) (at + piece_length samples pattern stops k at)
    else []

-- all pieces: each has a sample or more, so there are no more of them than samples
abbrev pub pieces_of : ℕ → List ℕ → List ℕ → List Piece
pieces_of samples pattern stops = pieces_from samples samples pattern stops 0 0

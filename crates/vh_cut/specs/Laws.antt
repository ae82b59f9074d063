-- What the rule on pieces comes to.
use Rattle.std.specs.Prelude.{◌≡◌, ◌≤◌, ◌<◌, ℕ, ◌+◌, ◌%◌, List, length, take, slice_index, slice_index_or, sum_by}
use Rattle.vh_cut.specs.declared.piece.Piece.{Piece}
use Rattle.vh_cut.specs.Cut.{IsPattern, pieces_of}

abbrev pub samples_of : List Piece → ℕ
samples_of pieces = sum_by (λ piece. piece.length) pieces

-- a stop lies within a piece, after its first sample
abbrev pub IsCrossed : ℕ → Piece → Type 0
IsCrossed stop piece = (piece.start < stop) × (stop < piece.start + piece.length)

-- the pieces lie end to end from `at` on to the last sample, none is empty, each is no longer than the size
-- whose turn it is, and none crosses a stop. The first is number k
pub record LieEndToEnd (samples : ℕ) (pattern stops : List ℕ) (k at : ℕ) (pieces : List Piece) : Type 0 where
  pub begin : (i : ℕ) (d : Piece) → i < length pieces → (slice_index_or pieces i d).start ≡ at + samples_of (take i pieces)
  pub cover : at + samples_of pieces ≡ samples
  pub filled : (i : ℕ) (d : Piece) → i < length pieces → 1 ≤ (slice_index_or pieces i d).length
  pub sized : (i : ℕ) (d : Piece) → i < length pieces → (slice_index_or pieces i d).length ≤ slice_index pattern ((k + i) % length pattern)
  pub uncrossed : (i : ℕ) (d : Piece) (j e : ℕ) → i < length pieces → j < length stops → ¬ IsCrossed (slice_index_or stops j e) (slice_index_or pieces i d)

-- no sample is left out or taken twice
abbrev pub PiecesLieEndToEnd : Type 0
PiecesLieEndToEnd = (samples : ℕ) (pattern stops : List ℕ) → IsPattern pattern → LieEndToEnd samples pattern stops 0 0 (pieces_of samples pattern stops)

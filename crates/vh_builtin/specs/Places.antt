-- Where a parameter stands among those of its class.
use Rattle.std.specs.Prelude.{◌≡◌, ◌≢◌, ℕ, ◌<◌, List, length, slice_index_or, Option, Some, None}

-- the first place of this id, or none of these is it
abbrev pub IsPlaceOf : List ℕ → ℕ → Option ℕ → Type 0
IsPlaceOf ids id (Some place) = (place < length ids) × (slice_index_or ids place 0 ≡ id) × ((before : ℕ) → before < place → slice_index_or ids before 0 ≢ id)
IsPlaceOf ids id None = (place : ℕ) → place < length ids → slice_index_or ids place 0 ≢ id

-- Laws of the values that queues mean, for the proofs of processors.
use Rattle.std.specs.Prelude.{◌≡◌, ℕ, ◌-◌, ◌<◌, ◌≤◌, List, All}
use Rattle.vh_points.specs.Queues.{Queue, AreLawful}
use Rattle.vh_points.specs.Values.{value_at, value_behind, points_of, queues_before, queues_from}

-- with no point up to an offset, as at offset 0 with no point there, the value is the one before
abbrev pub StartsAsBefore : Type 0
StartsAsBefore = (queues : List Queue) (id before offset : ℕ) → All (λ point. offset < point.0) (points_of queues id)
    → value_at before (points_of queues id) offset ≡ before

-- from the last point on the value stays, and it is the one before the next block
abbrev pub StaysBehind : Type 0
StaysBehind = (queues : List Queue) (id before offset : ℕ) → All (λ point. point.0 ≤ offset) (points_of queues id)
    → value_at before (points_of queues id) offset ≡ value_behind before (points_of queues id)

-- a block that is cut in two has the same values: those up to the cut, those from it on, where the
-- value before is the one behind the first part, and the one behind both
pub record IsCut (queues : List Queue) (id before place : ℕ) : Type 0 where
  pub first : (offset : ℕ) → offset < place → value_at before (points_of (queues_before place queues) id) offset ≡ value_at before (points_of queues id) offset
  pub second : (offset : ℕ) → place ≤ offset
      → value_at (value_behind before (points_of (queues_before place queues) id)) (points_of (queues_from place queues) id) (offset - place) ≡ value_at before (points_of queues id) offset
  pub behind : value_behind (value_behind before (points_of (queues_before place queues) id)) (points_of (queues_from place queues) id) ≡ value_behind before (points_of queues id)

abbrev pub CutInTwo : Type 0
CutInTwo = (queues : List Queue) (id before place : ℕ) → AreLawful queues → IsCut queues id before place

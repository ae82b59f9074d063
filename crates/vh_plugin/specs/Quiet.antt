-- Where a value goes on from among a parameter's points.
use Rattle.std.specs.Prelude.{◌≡◌, ℕ, ◌<◌, ◌≤◌, List, [], length, map, drop, slice_index_or, Option, Some, None}
use Rattle.vh_plugin.specs.Class.{Param}
use Rattle.vh_points.specs.Queues.{Queue, queue_at}
use Rattle.vh_points.specs.Values.{value_at, value_behind, points_of}

-- the identifiers of parameters
abbrev pub ids_of : List Param → List ℕ
ids_of params = map (λ param. param.id) params

-- the queue of a parameter, where there is one
abbrev pub IsQueueOf : List Queue → ℕ → Option ℕ → Type 0
IsQueueOf queues id (Some q) = (q < length queues) × ((queue_at queues q).points ≡ points_of queues id)
IsQueueOf queues id None = points_of queues id ≡ []

-- from `from` on, this value and the points left over mean what that value and all points do
pub record GoesOn (points : List (ℕ × ℕ)) (before : ℕ) (rest : List (ℕ × ℕ)) (value from : ℕ) : Type 0 where
  pub later : (offset : ℕ) → from ≤ offset → value_at value rest offset ≡ value_at before points offset
  pub behind : value_behind value rest ≡ value_behind before points

-- the points from `passed` on, up to those of offset `from`, were applied, and the value stands until `next`
pub record IsMoved (points : List (ℕ × ℕ)) (passed value from passed' value' next : ℕ) : Type 0 where
  pub goes_on : GoesOn (drop passed points) value (drop passed' points) value' from
  pub still : (place : ℕ) → from ≤ place → place < next → value_at value (drop passed points) place ≡ value'

-- the value stands from `from` until `next`
abbrev pub Stands : List (ℕ × ℕ) → ℕ → ℕ → ℕ → ℕ → Type 0
Stands points passed value from next = (place : ℕ) → from ≤ place → place < next → value_at value (drop passed points) place ≡ value

abbrev pub AllStand : List ℕ → List Queue → List ℕ → List ℕ → ℕ → List ℕ → Type 0
AllStand ids queues passed values from nexts = (k : ℕ) → k < length ids
    → Stands (points_of queues (slice_index_or ids k 0)) (slice_index_or passed k 0) (slice_index_or values k 0) from (slice_index_or nexts k 0)

-- so of each parameter
pub record AreMoved (ids : List ℕ) (queues : List Queue) (passed values : List ℕ) (from : ℕ) (passed' values' : List ℕ) (next : ℕ) : Type 0 where
  pub passed_long : length passed' ≡ length ids
  pub values_long : length values' ≡ length ids
  pub each : (k : ℕ) → k < length ids
      → IsMoved (points_of queues (slice_index_or ids k 0)) (slice_index_or passed k 0) (slice_index_or values k 0) from (slice_index_or passed' k 0) (slice_index_or values' k 0) next

-- the values behind the block of the parameters before this one, and the others as they were
pub record AreBehind (ids : List ℕ) (queues : List Queue) (old : List ℕ) (i : ℕ) (now : List ℕ) : Type 0 where
  pub long : length now ≡ length ids
  pub each : (k : ℕ) → k < i → slice_index_or now k 0 ≡ value_behind (slice_index_or old k 0) (points_of queues (slice_index_or ids k 0))
  pub others : (k : ℕ) → i ≤ k → slice_index_or now k 0 ≡ slice_index_or old k 0

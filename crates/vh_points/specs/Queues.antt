-- Queues of parameter points.
use Rattle.std.specs.Prelude.{◌≡◌, ◌≢◌, ℕ, ◌+◌, ◌<◌, ◌≤◌, ◌^◌, List, [], ◌∷◌, ◌++◌, length, slice_index_or, slice_set}

-- a parameter's points: its id, and offsets with values
pub record Queue : Type 0 where
  pub id : ℕ
  pub points : List (ℕ × ℕ)

-- this point may stand behind those: its offset is above the last one's, and its value is another
abbrev pub MayFollow : List (ℕ × ℕ) → ℕ × ℕ → Type 0
MayFollow points point = (j : ℕ) (d : ℕ × ℕ) → j + 1 ≡ length points → ((slice_index_or points j d).0 < point.0) × ((slice_index_or points j d).1 ≢ point.1)

-- the offsets rise, no value stands twice running, and none is above 1.0
pub record IsRising (points : List (ℕ × ℕ)) : Type 0 where
  pub rises : (j : ℕ) (d : ℕ × ℕ) → j + 1 < length points → (slice_index_or points j d).0 < (slice_index_or points (j + 1) d).0
  pub changes : (j : ℕ) (d : ℕ × ℕ) → j + 1 < length points → (slice_index_or points j d).1 ≢ (slice_index_or points (j + 1) d).1
  pub within : (j : ℕ) (d : ℕ × ℕ) → j < length points → (slice_index_or points j d).1 ≤ 2 ^ 24

-- no queue has this id
abbrev pub LacksId : List Queue → ℕ → Type 0
LacksId queues id = (i : ℕ) (d : Queue) → i < length queues → (slice_index_or queues i d).id ≢ id

-- of each parameter there is at most one queue, and its points rise
pub record AreLawful (queues : List Queue) : Type 0 where
  pub ids : (i j : ℕ) (d : Queue) → i < j → j < length queues → (slice_index_or queues i d).id ≢ (slice_index_or queues j d).id
  pub points : (i : ℕ) (d : Queue) → i < length queues → IsRising (slice_index_or queues i d).points

abbrev pub no_queue : Queue
no_queue = record { id = 0; points = [] }

-- the queue of this number
abbrev pub queue_at : List Queue → ℕ → Queue
queue_at queues q = slice_index_or queues q no_queue

-- a queue with one point more
abbrev pub longer : Queue → ℕ × ℕ → Queue
longer queue point = record { id = queue.id; points = queue.points ++ point ∷ [] }

-- the queues, of which this one has one point more
abbrev pub with_point : List Queue → ℕ → ℕ × ℕ → List Queue
with_point queues q point = slice_set queues q (longer (queue_at queues q) point)

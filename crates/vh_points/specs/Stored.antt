-- Queues as they are stored: one list of points, and for each queue where its points stand.
use Rattle.std.specs.Prelude.{◌≡◌, ℕ, ◌+◌, ◌≤◌, ◌<◌, List, map, take, drop, slice_index_or}
use Rattle.vh_points.specs.declared.points.Queue.{Queue as Stored}
use Rattle.vh_points.specs.Queues.{Queue}

-- a queue of these points
abbrev pub queue_in : List (ℕ × ℕ) → Stored → Queue
queue_in points stored = record { id = stored.id; points = take stored.size (drop stored.start points) }

abbrev pub queues_in : List Stored → List (ℕ × ℕ) → ℕ → List Queue
queues_in stored points count = map (queue_in points) (take count stored)

-- the queues' points stand within those in use, the last one's at their end
pub record ArePlaced (stored : List Stored) (count used : ℕ) : Type 0 where
  pub parts : (i : ℕ) (d : Stored) → i < count → (slice_index_or stored i d).start + (slice_index_or stored i d).size ≤ used
  pub last : (i : ℕ) (d : Stored) → i + 1 ≡ count → (slice_index_or stored i d).start + (slice_index_or stored i d).size ≡ used

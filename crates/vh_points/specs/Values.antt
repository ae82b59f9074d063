-- What queues of points mean to a processor: which value a parameter has at each offset of a block.
use Rattle.std.specs.Prelude.{ℕ, ◌-◌, nat_lt, nat_le, ◌==◌, List, [], ◌∷◌, map, if◌then◌else◌}
use Rattle.std.specs.List.{filter}
use Rattle.vh_points.specs.Queues.{Queue}

-- the value at an offset: that of the last point of offset at most it, else the value before the block
abbrev pub value_at : ℕ → List (ℕ × ℕ) → ℕ → ℕ
value_at before [] offset = before
value_at before (point ∷ points) offset = value_at (if nat_le point.0 offset then point.1 else before) points offset

-- the value behind all points, which is the one before the next block
abbrev pub value_behind : ℕ → List (ℕ × ℕ) → ℕ
value_behind before [] = before
value_behind before (point ∷ points) = value_behind point.1 points

-- the points of a parameter, none where it has no queue
abbrev pub points_of : List Queue → ℕ → List (ℕ × ℕ)
points_of [] id = []
points_of (queue ∷ queues) id = if queue.id == id then queue.points else points_of queues id

-- the points before a place of the block, and those from it on, by their offsets from it
abbrev pub points_before : ℕ → List (ℕ × ℕ) → List (ℕ × ℕ)
points_before place points = filter (λ point. nat_lt point.0 place) points

abbrev pub points_from : ℕ → List (ℕ × ℕ) → List (ℕ × ℕ)
points_from place points = map (λ point. (point.0 - place, point.1)) (filter (λ point. nat_le place point.0) points)

-- a block's queues up to a place, and from it on
abbrev pub queues_before : ℕ → List Queue → List Queue
queues_before place queues = map (λ queue. record { id = queue.id; points = points_before place queue.points }) queues

abbrev pub queues_from : ℕ → List Queue → List Queue
queues_from place queues = map (λ queue. record { id = queue.id; points = points_from place queue.points }) queues

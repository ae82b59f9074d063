-- The points that a lane sends.
use Rattle.std.specs.Prelude.{ℕ, zero, suc, ◌+◌, ◌==◌, List, [], ◌∷◌, ◌++◌, slice_set, if◌then◌else◌}
use Rattle.vh_points.specs.Queues.{Queue, queue_at}

-- the value before this offset: before the first it is the last that was sent
abbrev pub before : (ℕ → ℕ) → ℕ → ℕ → ℕ → ℕ
before value from last zero = last
before value from last (suc offset) = value (from + offset)

-- a point at each of so many offsets where the value differs from the one before
abbrev pub changes_of : (ℕ → ℕ) → ℕ → ℕ → ℕ → List (ℕ × ℕ)
changes_of value from last zero = []
changes_of value from last (suc offset) =
    if value (from + offset) == before value from last offset then changes_of value from last offset
    else changes_of value from last offset ++ (offset, value (from + offset)) ∷ []

-- the queues, of which this one has these points
abbrev pub with_points : List Queue → ℕ → List (ℕ × ℕ) → List Queue
with_points queues q points = slice_set queues q (record { id = (queue_at queues q).id; points = points })

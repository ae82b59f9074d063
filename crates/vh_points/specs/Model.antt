-- What callers see of the points.
use Rattle.std.specs.Prelude.{ℕ, ◌-◌, List, length}
use Rattle.vh_points.specs.declared.points.Points.{Points}
use Rattle.vh_points.specs.Queues.{Queue}
use Rattle.vh_points.specs.Stored.{queues_in}

-- the queues
abbrev pub queues_of : Points → List Queue
queues_of p = queues_in p.queues.items p.points.items p.count

-- how many more queues there is room for, how many points there may be, and how many more
abbrev pub queue_room : Points → ℕ
queue_room p = length p.queues.items - p.count

abbrev pub most_points : Points → ℕ
most_points p = length p.points.items

abbrev pub point_room : Points → ℕ
point_room p = length p.points.items - p.used

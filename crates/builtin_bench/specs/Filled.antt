-- Points of the first parameter, within a block.
use Rattle.std.specs.Prelude.{◌≡◌, ℕ, ◌<◌, List, All}
use Rattle.vh_points.specs.Queues.{Queue}

pub record IsFilled (n : ℕ) (queues : List Queue) : Type 0 where
  pub ids : All (λ queue. queue.id ≡ 0) queues
  pub offsets : All (λ queue. All (λ point. point.0 < n) queue.points) queues

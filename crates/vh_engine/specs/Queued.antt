-- What a processor is sent of all its parameters.
use Rattle.std.specs.Prelude.{◌≡◌, ◌<◌, ◌+◌, ℕ, List, length, slice_index_or, All, true, false, None}
use Rattle.vh_points.specs.declared.points.Points.{Points}
use Rattle.vh_points.specs.Queues.{Queue}
use Rattle.vh_points.specs.Values.{points_of}
use Rattle.vh_points.specs.Model.{queues_of, queue_room}
use Rattle.vh_engine.specs.declared.control.Control.{Control}
use Rattle.vh_engine.specs.declared.span.Span.{Span}
use Rattle.vh_engine.specs.Between.{AreElsewhere}
use Rattle.vh_engine.specs.Controls.{IsControl}
use Rattle.vh_engine.specs.Sent.{points_in}

-- how many queues there may be
abbrev pub most_queues : Points → ℕ
most_queues points = queue_room points + length (queues_of points)

-- a read-only parameter stays where it is: it has no lane, and no entry is on it
pub record IsStill (span : Span) (node : ℕ) (control : Control) : Type 0 where
  pub lane : control.lane ≡ None
  pub sent : control.sent ≡ control.held
  pub elsewhere : AreElsewhere node control.id span.entries.now

-- the parameters of a node as a block finds them
pub record AreControls (span : Span) (node : ℕ) (controls : List Control) : Type 0 where
  pub rising : (i j : ℕ) (d : Control) → i < j → j < length controls → (slice_index_or controls i d).id < (slice_index_or controls j d).id
  pub each : All (IsControl (length span.lanes.now) (length span.entries.now)) controls
  pub shown : All (λ control. control.shown ≡ true → IsStill span node control) controls

-- each parameter has the points of its changes, and queues are those of writable parameters alone
pub record AreSent (span : Span) (node : ℕ) (controls : List Control) (queues : List Queue) : Type 0 where
  pub points : (k : ℕ) (d : Control) → k < length controls → points_of queues (slice_index_or controls k d).id ≡ points_in span node (slice_index_or controls k d)
  pub writable : All (λ queue. (k : ℕ) × (k < length controls) × ((d : Control) → ((slice_index_or controls k d).id ≡ queue.id) × ((slice_index_or controls k d).shown ≡ false))) queues
  pub offsets : All (λ queue. All (λ point. point.0 < span.frames) queue.points) queues

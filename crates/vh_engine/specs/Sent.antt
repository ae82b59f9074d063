-- What a parameter's value over a block is sent as.
use Rattle.std.specs.Prelude.{◌≡◌, ◌⊎◌, ℕ, List, [], ◌∷◌, ◌++◌, length}
use Rattle.vh_points.specs.Queues.{Queue}
use Rattle.vh_lane.specs.Changes.{before, changes_of, with_points}
use Rattle.vh_engine.specs.declared.control.Control.{Control}
use Rattle.vh_engine.specs.declared.span.Span.{Span}
use Rattle.vh_engine.specs.Controls.{touch_of, line_of, IsControl, IsSame, value_through, touch_through}

-- a parameter's value at a sample of a block
abbrev pub value_in : Span → ℕ → Control → ℕ → ℕ
value_in span node control s = value_through span.lanes.now node span.entries.now control s

-- the points of its changes
abbrev pub points_in : Span → ℕ → Control → List (ℕ × ℕ)
points_in span node control = changes_of (value_in span node control) span.from control.sent span.frames

-- they were put into this queue
abbrev pub IsFilled : Span → ℕ → Control → ℕ → List Queue → List Queue → Type 0
IsFilled span node control q old new = new ≡ with_points old q (points_in span node control)

-- a queue of these points for this parameter stands behind the others, or none where there are no points
abbrev pub IsQueued : ℕ → List (ℕ × ℕ) → List Queue → List Queue → Type 0
IsQueued id points old new = ((new ≡ old) × (points ≡ [])) ⊎ (new ≡ old ++ record { id = id; points = points } ∷ [])

-- the parameter behind a block: entries were taken, and its processor has the value of the last sample
pub record IsBehind (span : Span) (node : ℕ) (old new : Control) : Type 0 where
  pub touch : touch_of new ≡ touch_through (line_of span.lanes.now old) old.steps node old.id span.entries.now (touch_of old)
  pub sent : new.sent ≡ before (value_in span node old) span.from old.sent span.frames
  pub same : IsSame old new
  pub control : IsControl (length span.lanes.now) 0 new

-- A parameter as the engine keeps it.
use Rattle.std.specs.Prelude.{◌≡◌, ◌<◌, ◌≤◌, ◌^◌, ◌+◌, ⊤, ℕ, List, [], ◌∷◌, Option, Some, None}
use Rattle.std.specs.List.{slice_get}
use Rattle.std.specs.Option.{option_map}
use Rattle.vh_lane.specs.declared.lane.Lane.{Lane}
use Rattle.vh_lane.specs.Kept.{value_of}
use Rattle.vh_journal.specs.declared.entry.Entry.{Entry}
use Rattle.vh_meaning.specs.Edits.{edit_in, up_to}
use Rattle.vh_meaning.specs.Stands.{Touch}
use Rattle.vh_meaning.specs.Steps.{touched_by, value_now}
use Rattle.vh_engine.specs.declared.control.Control.{Control}

abbrev pub touch_of : Control → Touch
touch_of control = record { value = control.held; begun = control.begun; ended = control.ended }

-- a lane as its value at each sample
abbrev pub line_at : List (ℕ × ℕ × Lane) → Option ℕ → Option (ℕ → ℕ)
line_at lanes None = None
line_at lanes (Some place) = option_map (λ lane. value_of lane.2) (slice_get lanes place)

abbrev pub line_of : List (ℕ × ℕ × Lane) → Control → Option (ℕ → ℕ)
line_of lanes control = line_at lanes control.lane

-- its lane is one of these
abbrev pub IsPlaced : ℕ → Option ℕ → Type 0
IsPlaced count None = ⊤
IsPlaced count (Some place) = place < count

-- what holds of each parameter: its steps and values are in range, and its counts of gestures have room
pub record IsControl (lanes room : ℕ) (control : Control) : Type 0 where
  pub steps : control.steps ≤ 4095
  pub lane : IsPlaced lanes control.lane
  pub held : control.held ≤ 2 ^ 24
  pub sent : control.sent ≤ 2 ^ 24
  pub begun : control.begun + room < 2 ^ 128
  pub ended : control.ended + room < 2 ^ 128

-- a parameter of a node after entries, one by one
abbrev pub touch_through : Option (ℕ → ℕ) → ℕ → ℕ → ℕ → List Entry → Touch → Touch
touch_through line steps node id [] touch = touch
touch_through line steps node id (entry ∷ entries) touch = touch_through line steps node id entries (touched_by line steps (edit_in node id entry) touch)

-- its value at a sample after the entries up to there
abbrev pub value_through : List (ℕ × ℕ × Lane) → ℕ → List Entry → Control → ℕ → ℕ
value_through lanes node entries control s =
    value_now (line_of lanes control) (touch_through (line_of lanes control) control.steps node control.id (up_to s entries) (touch_of control)) s

-- all but what edits and sending change
pub record IsSame (old new : Control) : Type 0 where
  pub id : new.id ≡ old.id
  pub steps : new.steps ≡ old.steps
  pub shown : new.shown ≡ old.shown
  pub lane : new.lane ≡ old.lane

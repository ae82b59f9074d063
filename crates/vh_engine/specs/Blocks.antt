-- A block, step by step.
use Rattle.std.specs.Prelude.{◌≡◌, ◌<◌, ◌≤◌, ◌+◌, ℕ, List, length, slice_index_or, All, ℤ}
use Rattle.vh_lane.specs.declared.lane.Lane.{Lane}
use Rattle.vh_num.specs.Frames.{Frame}
use Rattle.vh_plugin.specs.Class.{State}
use Rattle.vh_journal.specs.declared.entry.Entry.{Entry}
use Rattle.vh_meaning.specs.Scene.{Scene, node_count, params_at}
use Rattle.vh_meaning.specs.World.{input_at}
use Rattle.vh_meaning.specs.Stands.{Standing}
use Rattle.vh_meaning.specs.Steps.{touches_through, value_now}
use Rattle.vh_meaning.specs.Trace.{IsTrace}
use Rattle.vh_meaning.specs.Block.{values_within}
use Rattle.vh_engine.specs.declared.control.Control.{Control}
use Rattle.vh_engine.specs.Buses.{frames_at}
use Rattle.vh_engine.specs.Controls.{touch_of, line_of}
use Rattle.vh_engine.specs.Kept.{AreInput}
use Rattle.vh_engine.specs.Staged.{board_at}

-- A block that was begun at `one`, and went on to `other`: states and frames of its nodes over its samples, and the
-- parameters behind the entries that lay ahead.
pub record IsBlockOver (scene : Scene) (one other : Standing) (at n : ℕ) (input : List Frame) (rest : List Entry) (states : ℕ → ℕ → State) (frames : ℕ → ℕ → Frame) : Type 0 where
  pub start : (node : ℕ) → node < node_count scene → states 0 node ≡ one.states node
  pub trace : IsTrace scene n (λ o. values_within scene one rest (at + o)) (λ o. input_at scene input (at + o)) states frames
  pub states_are : (node : ℕ) → node < node_count scene → states n node ≡ other.states node
  pub touches_are : (node : ℕ) → node < node_count scene → touches_through scene rest node (params_at scene node) (one.touches node) ≡ other.touches node
  pub answers_are : one.answers ≡ other.answers

-- whatever the input whose samples came in, where these are the samples of the nodes
abbrev pub HasGoneOver : Scene → Standing → Standing → ℕ → ℕ → List ℤ → List Entry → List (List ℤ) → Type 0
HasGoneOver scene one other at n ins rest rows = (input : List Frame) → AreInput scene input at n ins
    → (states : ℕ → ℕ → State) × IsBlockOver scene one other at n input rest states (frames_at scene.channels n rows)

-- a parameter's processor has its value at a sample
abbrev pub IsCurrent : List (ℕ × ℕ × Lane) → ℕ → Control → Type 0
IsCurrent lanes s control = control.sent ≡ value_now (line_of lanes control) (touch_of control) s

-- so of each node
abbrev pub AreCurrent : List (ℕ × ℕ × Lane) → ℕ → List (List Control) → Type 0
AreCurrent lanes s boards = (node : ℕ) → node < length boards → All (IsCurrent lanes s) (board_at boards node)

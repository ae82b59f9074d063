-- One sample, of what is kept.
use Rattle.std.specs.Prelude.{ℕ, ◌+◌, List, [], ◌∷◌, ◌++◌, Option, Some, None, if◌then◌else◌}
use Rattle.vh_num.specs.Values.{quant_of}
use Rattle.vh_num.specs.Frames.{Frame}
use Rattle.vh_plugin.specs.Class.{Param}
use Rattle.vh_journal.specs.declared.entry.Entry.{Entry}
use Rattle.vh_meaning.specs.Scene.{Scene, params_at, lane_of}
use Rattle.vh_meaning.specs.Edits.{Edit, Began, Performed, Ended, edit_in}
use Rattle.vh_meaning.specs.Frames.{moved, frame_of}
use Rattle.vh_meaning.specs.World.{told_by}
use Rattle.vh_meaning.specs.Rendering.{answers_by}
use Rattle.vh_meaning.specs.Stands.{Touch, is_touched, Standing}

-- a parameter after one more edit
abbrev pub touched : Option (ℕ → ℕ) → ℕ → Edit → Touch → Touch
touched lane steps (Performed value) touch = record { value = quant_of value steps; begun = touch.begun; ended = touch.ended }
touched lane steps Ended touch = record { value = touch.value; begun = touch.begun; ended = touch.ended + 1 }
touched None steps (Began sample) touch = record { value = touch.value; begun = touch.begun + 1; ended = touch.ended }
touched (Some lane) steps (Began sample) touch = record {
  value = if is_touched touch then touch.value else lane sample;
  begun = touch.begun + 1;
  ended = touch.ended;
}

-- and after none
abbrev pub touched_by : Option (ℕ → ℕ) → ℕ → Option Edit → Touch → Touch
touched_by lane steps None touch = touch
touched_by lane steps (Some edit) touch = touched lane steps edit touch

-- a node's parameters after an entry
abbrev pub touches_with : Scene → Entry → ℕ → List Param → List Touch → List Touch
touches_with scene entry node [] touches = []
touches_with scene entry node (param ∷ params) [] = []
touches_with scene entry node (param ∷ params) (touch ∷ touches) =
    touched_by (lane_of scene node param) param.steps (edit_in node param.id entry) touch ∷ touches_with scene entry node params touches

-- and after these entries, one by one
abbrev pub touches_through : Scene → List Entry → ℕ → List Param → List Touch → List Touch
touches_through scene [] node params touches = touches
touches_through scene (entry ∷ entries) node params touches = touches_through scene entries node params (touches_with scene entry node params touches)

-- a parameter's value at a sample
abbrev pub value_now : Option (ℕ → ℕ) → Touch → ℕ → ℕ
value_now None touch s = touch.value
value_now (Some lane) touch s = if is_touched touch then touch.value else lane s

abbrev pub values_now : Scene → ℕ → List Param → List Touch → ℕ → List ℕ
values_now scene node [] touches s = []
values_now scene node (param ∷ params) [] s = []
values_now scene node (param ∷ params) (touch ∷ touches) s = value_now (lane_of scene node param) touch s ∷ values_now scene node params touches s

-- each node's values at a sample
abbrev pub values_in : Scene → Standing → ℕ → ℕ → List ℕ
values_in scene standing s node = values_now scene node (params_at scene node) (standing.touches node) s

-- An entry is applied at sample s: an edit to its parameter, and a message to its node, which answers.
abbrev pub applied_one : Scene → ℕ → Entry → Standing → Standing
applied_one scene s entry standing = record {
  states = told_by scene (values_in scene standing s) entry.command standing.states;
  touches = λ node. touches_with scene entry node (params_at scene node) (standing.touches node);
  answers = standing.answers ++ answers_by scene standing.states (values_in scene standing s) s entry.command;
}

abbrev pub applied : Scene → ℕ → List Entry → Standing → Standing
applied scene s [] standing = standing
applied scene s (entry ∷ entries) standing = applied scene s entries (applied_one scene s entry standing)

-- the frames that the nodes then give at sample s
abbrev pub frames_now : Scene → ℕ → Frame → Standing → ℕ → Frame
frames_now scene s input standing = frame_of scene standing.states (values_in scene standing s) input

-- and what is kept behind it
abbrev pub moved_on : Scene → ℕ → Frame → Standing → Standing
moved_on scene s input standing = record {
  states = moved scene standing.states (values_in scene standing s) input;
  touches = standing.touches;
  answers = standing.answers;
}

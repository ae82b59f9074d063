-- A stretch of a block in which no value changes.
use Rattle.std.specs.Prelude.{◌≡◌, ℕ, zero, suc, ◌<◌, ◌⊎◌, List, [], ◌∷◌, length, slice_index_or, Option, Some, None, true, ℤ, pos, if◌then◌else◌, ◌==◌}
use Rattle.vh_num.specs.Frames.{Frame}
use Rattle.vh_plugin.specs.Class.{Class, State}

-- the frames of one channel, and of two
abbrev pub mono : List ℤ → ℕ → Frame
mono samples place = slice_index_or samples place (pos 0) ∷ []

abbrev pub stereo : List ℤ → List ℤ → ℕ → Frame
stereo left right place = slice_index_or left place (pos 0) ∷ slice_index_or right place (pos 0) ∷ []

-- the aux frames, none where there are no samples
abbrev pub aux_mono : List ℤ → ℕ → Option Frame
aux_mono samples place = if length samples == 0 then None else Some (mono samples place)

abbrev pub aux_stereo : List ℤ → List ℤ → ℕ → Option Frame
aux_stereo left right place = if length left == 0 then None else Some (stereo left right place)

-- the samples of an aux frame beside so many of each main channel, or of none
abbrev pub AreBeside : Class → ℕ → List ℤ → Type 0
AreBeside class size samples = (length samples ≡ 0) ⊎ ((length samples ≡ size) × (class.aux ≡ true))

-- the state after so many samples of a stretch with these values and frames
abbrev pub run_state : Class → ℕ → State → List ℕ → (ℕ → Frame) → (ℕ → Option Frame) → ℕ → State
run_state class channels state values main aux zero = state
run_state class channels state values main aux (suc place) = class.next channels (run_state class channels state values main aux place) values (main place) (aux place)

-- the output frame at a place of it
abbrev pub run_output : Class → ℕ → State → List ℕ → (ℕ → Frame) → (ℕ → Option Frame) → ℕ → Frame
run_output class channels state values main aux place = class.output channels (run_state class channels state values main aux place) values (main place) (aux place)

-- the first `size` output frames are those of the stretch
abbrev pub IsRun : Class → ℕ → State → List ℕ → (ℕ → Frame) → (ℕ → Option Frame) → ℕ → (ℕ → Frame) → Type 0
IsRun class channels state values main aux size out = (place : ℕ) → place < size → out place ≡ run_output class channels state values main aux place

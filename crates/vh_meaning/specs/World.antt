-- Every node's state at a sample, and its frame.
use Rattle.std.specs.Prelude.{ℕ, zero, suc, ◌==◌, List, [], ◌∷◌, ◌++◌, slice_index_or, replicate, pos, if◌then◌else◌}
use Rattle.vh_params.specs.declared.command.Command.{Command}
use Rattle.vh_params.specs.declared.command.Command.TheVariants.{Begin, Perform, End, Tell}
use Rattle.vh_params.specs.Short.{words_in}
use Rattle.vh_num.specs.Frames.{Frame}
use Rattle.vh_plugin.specs.Class.{State}
use Rattle.vh_journal.specs.declared.entry.Entry.{Entry}
use Rattle.vh_meaning.specs.Scene.{Scene, class_at}
use Rattle.vh_meaning.specs.Values.{values_at}
use Rattle.vh_meaning.specs.Frames.{moved, frame_of}

abbrev pub silence : ℕ → Frame
silence channels = replicate channels (pos 0)

-- the input's frame at a sample: silence past its end
abbrev pub input_at : Scene → List Frame → ℕ → Frame
input_at scene input s = slice_index_or input s (silence scene.channels)

-- the state of a node after a message to one
abbrev pub told_at : Scene → (ℕ → List ℕ) → ℕ → List ℕ → (ℕ → State) → ℕ → State
told_at scene values to words states node =
    if node == to then (class_at scene node).told (states node) (values node) words else states node

-- what a command does to states, where the parameters have these values
abbrev pub told_by : Scene → (ℕ → List ℕ) → Command → (ℕ → State) → ℕ → State
told_by scene values (Begin node id) states = states
told_by scene values (Perform node id value) states = states
told_by scene values (End node id) states = states
told_by scene values (Tell node words) states = told_at scene values node (words_in words) states

-- The states after the messages of a sample among these entries, one by one. Each message meets the values after the
-- entries before it; those `before` the first stand apart.
abbrev pub after_messages : Scene → ℕ → List Entry → List Entry → (ℕ → State) → ℕ → State
after_messages scene s before [] states = states
after_messages scene s before (entry ∷ later) states =
    after_messages scene s (before ++ entry ∷ []) later
    (if entry.sample == s then told_by scene (values_at scene before s) entry.command states else states)

-- all messages of a sample
abbrev pub told : Scene → List Entry → ℕ → (ℕ → State) → ℕ → State
told scene h s states = after_messages scene s [] h states

-- Every node's state before a sample: at first its class's start; then that in which the sample before left it, after
-- that sample's messages.
abbrev pub world : Scene → List Frame → List Entry → ℕ → ℕ → State
world scene input h zero = λ node. (class_at scene node).start
world scene input h (suc s) = moved scene (told scene h s (world scene input h s)) (values_at scene h s) (input_at scene input s)

-- and after the messages of the sample
abbrev pub after : Scene → List Frame → List Entry → ℕ → ℕ → State
after scene input h s = told scene h s (world scene input h s)

-- a node's frame at a sample
abbrev pub frame_at : Scene → List Frame → List Entry → ℕ → ℕ → Frame
frame_at scene input h s = frame_of scene (after scene input h s) (values_at scene h s) (input_at scene input s)

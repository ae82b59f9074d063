-- States and frames that fit together over several samples, in whatever order they came about.
use Rattle.std.specs.Prelude.{◌≡◌, ◌<◌, ℕ, ◌+◌, List}
use Rattle.vh_num.specs.Frames.{Frame}
use Rattle.vh_plugin.specs.Class.{State}
use Rattle.vh_meaning.specs.Scene.{Scene, node_count}
use Rattle.vh_meaning.specs.Frames.{given, stepped}

-- each node's frame is what its class gives for its state, its values and the frames that reach it
abbrev pub IsConsistent : Scene → (ℕ → State) → (ℕ → List ℕ) → Frame → (ℕ → Frame) → Type 0
IsConsistent scene states values input frames = (node : ℕ) → node < node_count scene → frames node ≡ given scene states values input frames node

-- so at each of n samples, and each state is that of the sample before, one step on
pub record IsTrace (scene : Scene) (n : ℕ) (values : ℕ → ℕ → List ℕ) (input : ℕ → Frame) (states : ℕ → ℕ → State) (frames : ℕ → ℕ → Frame) : Type 0 where
  pub consistent : (o : ℕ) → o < n → IsConsistent scene (states o) (values o) (input o) (frames o)
  pub moves : (o node : ℕ) → o < n → node < node_count scene → states (o + 1) node ≡ stepped scene (states o) (values o) (input o) (frames o) node

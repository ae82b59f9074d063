-- The frame that each node gives at a sample.
use Rattle.std.specs.Prelude.{ℕ, zero, suc, List, []}
use Rattle.vh_num.specs.Frames.{Frame}
use Rattle.vh_plugin.specs.Class.{State}
use Rattle.vh_session.specs.declared.wire.End.TheVariants.{Out, Node as AtNode}
use Rattle.vh_meaning.specs.Scene.{Scene, node_count, class_at}
use Rattle.vh_meaning.specs.Mix.{main_mix, aux_mix}

-- what a node gives from its state and values, where the input and the nodes give these frames
abbrev pub given : Scene → (ℕ → State) → (ℕ → List ℕ) → Frame → (ℕ → Frame) → ℕ → Frame
given scene states values input frames node =
    (class_at scene node).output scene.channels (states node) (values node)
    (main_mix scene.channels scene.wires input frames (AtNode node)) (aux_mix scene.channels scene.wires input frames (AtNode node))

-- the state in which it is then left
abbrev pub stepped : Scene → (ℕ → State) → (ℕ → List ℕ) → Frame → (ℕ → Frame) → ℕ → State
stepped scene states values input frames node =
    (class_at scene node).next scene.channels (states node) (values node)
    (main_mix scene.channels scene.wires input frames (AtNode node)) (aux_mix scene.channels scene.wires input frames (AtNode node))

-- A node's frame, by recursion on the graph along wires: no path has as many wires as there are nodes, since there
-- is no cycle.
abbrev pub frame_within : Scene → (ℕ → State) → (ℕ → List ℕ) → Frame → ℕ → ℕ → Frame
frame_within scene states values input zero = λ node. []
frame_within scene states values input (suc wires) = given scene states values input (frame_within scene states values input wires)

abbrev pub frame_of : Scene → (ℕ → State) → (ℕ → List ℕ) → Frame → ℕ → Frame
frame_of scene states values input = frame_within scene states values input (node_count scene)

-- the states in which the nodes are left behind a sample
abbrev pub moved : Scene → (ℕ → State) → (ℕ → List ℕ) → Frame → ℕ → State
moved scene states values input = stepped scene states values input (frame_of scene states values input)

-- the frame that reaches the output
abbrev pub out_of : Scene → Frame → (ℕ → Frame) → Frame
out_of scene input frames = main_mix scene.channels scene.wires input frames Out

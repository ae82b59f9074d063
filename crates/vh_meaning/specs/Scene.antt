-- What a rendering is made of.
use Rattle.std.specs.Prelude.{ℕ, ◌==◌, ◌&&◌, List, [], ◌∷◌, length, take, drop, slice_index_or, Option, Some, None, if◌then◌else◌}
use Rattle.vh_lane.specs.Values.{lane_at}
use Rattle.vh_plugin.specs.Class.{Param, Class}
use Rattle.vh_session.specs.Content.{Content}
use Rattle.vh_session.specs.Entry.{LaneText}
use Rattle.vh_session.specs.declared.wire.Wire.{Wire}

-- The nodes of a session with what their classes mean, and the first values, which `param` lines, presets and
-- defaults come to.
pub record Scene : Type 0 where
  -- in frames
  pub length : ℕ
  pub channels : ℕ
  -- what a code means, and the code of each node
  pub class_of : ℕ → Class
  pub codes : List ℕ
  -- of each node a value for each of its parameters, by rising id
  pub firsts : List (List ℕ)
  pub lanes : List LaneText
  pub wires : List Wire

abbrev pub node_count : Scene → ℕ
node_count scene = length scene.codes

abbrev pub class_at : Scene → ℕ → Class
class_at scene node = scene.class_of (slice_index_or scene.codes node 0)

abbrev pub params_at : Scene → ℕ → List Param
params_at scene node = (class_at scene node).params

abbrev pub firsts_at : Scene → ℕ → List ℕ
firsts_at scene node = slice_index_or scene.firsts node []

-- the lane of a parameter, where it has one
abbrev pub lane_in : List LaneText → ℕ → ℕ → Option LaneText
lane_in [] node id = None
lane_in (lane ∷ lanes) node id = if (lane.node == node) && (lane.id == id) then Some lane else lane_in lanes node id

-- its value at each sample, where it is there
abbrev pub line_of : ℕ → Option LaneText → Option (ℕ → ℕ)
line_of steps None = None
line_of steps (Some lane) = Some (λ s. lane_at steps lane.grain lane.breaks s)

-- the lane of a node's parameter as its value at each sample
abbrev pub lane_of : Scene → ℕ → Param → Option (ℕ → ℕ)
lane_of scene node param = line_of param.steps (lane_in scene.lanes node param.id)

-- a flat list of values, node by node: of each node one for each of its parameters
abbrev pub by_node : (ℕ → Class) → List ℕ → List ℕ → List (List ℕ)
by_node class_of [] values = []
by_node class_of (code ∷ codes) values =
    take (length (class_of code).params) values ∷ by_node class_of codes (drop (length (class_of code).params) values)

-- the scene of a session, whose nodes have these codes, with a flat list of first values
abbrev pub scene_of : (ℕ → Class) → List ℕ → List ℕ → Content → Scene
scene_of class_of codes firsts session = record {
  length = session.length;
  channels = session.channels;
  class_of = class_of;
  codes = codes;
  firsts = by_node class_of codes firsts;
  lanes = session.lanes;
  wires = session.wires;
}

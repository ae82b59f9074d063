-- What a session is played with.
use Rattle.std.specs.Prelude.{◌≡◌, ◌≤◌, ◌<◌, ◌^◌, ℕ, List, [], length, map, slice_index_or, All, ℤ, Vec}
use Rattle.std.specs.declared.alloc.Global.{Global}
use Rattle.vh_graph.specs.Order.{IsOrder}
use Rattle.vh_num.specs.Frames.{Frame}
use Rattle.vh_params.specs.Nodes.{node_at}
use Rattle.vh_points.specs.Model.{queues_of}
use Rattle.vh_session.specs.Content.{Content, node_wires}
use Rattle.vh_meaning.specs.World.{silence}
use Rattle.vh_legal.specs.Values.{AreFirsts}
use Rattle.vh_core.specs.declared.stage.Plan.{Plan}
use Rattle.vh_core.specs.declared.stage.Room.{Room}

-- each node's frame, and the values of its parameters
abbrev pub frames_in : List (Vec ℤ Global) → ℕ → Frame
frames_in frames node = slice_index_or (map (λ frame. frame.items) frames) node []

abbrev pub values_in : List (Vec ℕ Global) → ℕ → List ℕ
values_in values node = slice_index_or (map (λ given. given.items) values) node []

-- the first values, the order of the nodes, and a silent input
pub record IsPlan (session : Content) (plan : Plan) : Type 0 where
  pub firsts : AreFirsts session.nodes plan.firsts.items
  pub order : IsOrder (length session.nodes) (node_wires session.wires) plan.order.items
  pub input : plan.input.items ≡ silence session.channels
  pub points : queues_of plan.points ≡ []

-- room for a frame of each node, for its values, and for what reaches a bus
pub record IsRoom (session : Content) (room : Room) : Type 0 where
  pub frames : length room.frames.items ≡ length session.nodes
  pub wide : (node : ℕ) → node < length session.nodes → length (frames_in room.frames.items node) ≡ session.channels
  pub values : length room.values.items ≡ length session.nodes
  pub each : (node : ℕ) → node < length session.nodes → length (values_in room.values.items node) ≡ length (node_at session.nodes node).params
  pub main : length room.main.items ≡ session.channels
  pub aux : length room.aux.items ≡ session.channels

-- no value is above 1.0
abbrev pub AreWithin : ℕ → Room → Type 0
AreWithin count room = (node : ℕ) → node < count → All (λ value. value ≤ 2 ^ 24) (values_in room.values.items node)

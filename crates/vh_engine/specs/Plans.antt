-- What of a session doesn't change from block to block.
use Rattle.std.specs.Prelude.{◌≡◌, ◌<◌, ◌≤◌, ◌+◌, ◌==◌, ◌&&◌, ℕ, Bool, true, false, List, [], ◌∷◌, length, map, take, drop, slice_index_or, sum_by, Option, Some, None, Vec}
use Rattle.std.specs.declared.alloc.Global.{Global}
use Rattle.vh_lane.specs.declared.lane.Lane.{Lane}
use Rattle.vh_params.specs.declared.param.ParamInfo.{ParamInfo}
use Rattle.vh_params.specs.Flags.{is_read_only}
use Rattle.vh_params.specs.Nodes.{Node}
use Rattle.vh_session.specs.Content.{Content, sources_into}
use Rattle.vh_session.specs.declared.wire.End.TheVariants.{Node as AtNode}
use Rattle.vh_engine.specs.declared.control.Control.{Control}
use Rattle.vh_engine.specs.declared.seat.Seat.{Seat}

-- each node's wires
pub record AreSeats (session : Content) (seats : List Seat) : Type 0 where
  pub long : length seats ≡ length session.nodes
  pub main : (node : ℕ) (d : Seat) → node < length seats → (slice_index_or seats node d).main.items ≡ sources_into session.wires (AtNode node) false
  pub aux : (node : ℕ) (d : Seat) → node < length seats → (slice_index_or seats node d).aux.items ≡ sources_into session.wires (AtNode node) true

abbrev pub is_lane_of : ℕ → ℕ → ℕ × ℕ × Lane → Bool
is_lane_of node id lane = (lane.0 == node) && (lane.1 == id)

-- the place of the first lane of this parameter, or none where it has none
abbrev pub IsLaneOf : List (ℕ × ℕ × Lane) → ℕ → ℕ → Option ℕ → Type 0
IsLaneOf lanes node id None = (i : ℕ) (d : ℕ × ℕ × Lane) → i < length lanes → is_lane_of node id (slice_index_or lanes i d) ≡ false
IsLaneOf lanes node id (Some place) = (place < length lanes)
    × ((d : ℕ × ℕ × Lane) → is_lane_of node id (slice_index_or lanes place d) ≡ true)
    × ((i : ℕ) (d : ℕ × ℕ × Lane) → i < place → is_lane_of node id (slice_index_or lanes i d) ≡ false)

-- a parameter at its first value, with its lane
pub record IsFirst (lanes : List (ℕ × ℕ × Lane)) (node : ℕ) (param : ParamInfo) (first : ℕ) (control : Control) : Type 0 where
  pub id : control.id ≡ param.id
  pub steps : control.steps ≡ param.steps
  pub few_steps : control.steps ≤ 4095
  pub shown : control.shown ≡ is_read_only param.flags
  pub lane : IsLaneOf lanes node param.id control.lane
  pub held : control.held ≡ first
  pub sent : control.sent ≡ first
  pub begun : control.begun ≡ 0
  pub ended : control.ended ≡ 0

-- a node's parameters at the first values that the list begins with
pub record IsFirstBoard (lanes : List (ℕ × ℕ × Lane)) (node : ℕ) (params : List ParamInfo) (firsts : List ℕ) (board : List Control) : Type 0 where
  pub long : length board ≡ length params
  pub each : (k first : ℕ) (d : ParamInfo) (e : Control) → k < length params → IsFirst lanes node (slice_index_or params k d) (slice_index_or firsts k first) (slice_index_or board k e)

-- how many parameters the nodes before this one have
abbrev pub begin_of : List Node → ℕ → ℕ
begin_of nodes node = sum_by (λ n. length n.params) (take node nodes)

-- so of each node, whose first values stand node by node
pub record AreFirstBoards (lanes : List (ℕ × ℕ × Lane)) (nodes : List Node) (firsts : List ℕ) (boards : List (Vec Control Global)) : Type 0 where
  pub long : length boards ≡ length nodes
  pub each : (node : ℕ) (d : Node) (e : Vec Control Global) → node < length nodes → IsFirstBoard lanes node (slice_index_or nodes node d).params (drop (begin_of nodes node) firsts) (slice_index_or boards node e).items

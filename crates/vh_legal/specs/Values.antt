-- The value of a session's parameter.
use Rattle.std.specs.Prelude.{◌≡◌, ◌≤◌, ◌^◌, ℕ, ◌+◌, ◌==◌, Bool, List, length, take, slice_index, sum_by, All, Option, Some, None}
use Rattle.std.specs.List.{position_or_len}
use Rattle.vh_lane.specs.declared.lane.Lane.{Lane}
use Rattle.vh_lane.specs.Kept.{value_of as lane_value}
use Rattle.vh_params.specs.declared.command.Command.{Command}
use Rattle.vh_params.specs.declared.command.Command.TheVariants.{Begin, Perform, End, Tell}
use Rattle.vh_params.specs.declared.param.ParamInfo.{ParamInfo}
use Rattle.vh_params.specs.Nodes.{Node, node_at, info_in}
use Rattle.vh_plugin.specs.Class.{Class, Param, param_of}
use Rattle.vh_journal.specs.declared.entry.Entry.{Entry}
use Rattle.vh_session.specs.Content.{Content}
use Rattle.vh_meaning.specs.Scene.{scene_of}
use Rattle.vh_meaning.specs.Values.{value_of}

abbrev pub has_id : ℕ → ParamInfo → Bool
has_id id param = param.id == id

-- how many parameters nodes have together
abbrev pub param_count : List Node → ℕ
param_count nodes = sum_by (λ node. length node.params) nodes

-- a parameter's place among its node's, by rising id
abbrev pub place_in : List Node → ℕ → ℕ → ℕ
place_in nodes node id = position_or_len (has_id id) (node_at nodes node).params

-- and among those of all nodes, node by node
abbrev pub place_of : List Node → ℕ → ℕ → ℕ
place_of nodes node id = param_count (take node nodes) + place_in nodes node id

-- one value for each parameter, none above 1.0
pub record AreFirsts (nodes : List Node) (firsts : List ℕ) : Type 0 where
  pub each : length firsts ≡ param_count nodes
  pub within : All (λ value. value ≤ 2 ^ 24) firsts

-- a command that is a perform is of 1.0 at most
abbrev pub IsWithinOne : Command → Type 0
IsWithinOne (Begin node id) = Unit {0}
IsWithinOne (Perform node id value) = value ≤ 2 ^ 24
IsWithinOne (End node id) = Unit {0}
IsWithinOne (Tell node words) = Unit {0}

abbrev pub param_or_none : Option ParamInfo → Param
param_or_none None = record { id = 0; steps = 0; first = 0; flags = 0 }
param_or_none (Some info) = param_of info

abbrev pub param_at : List Node → ℕ → ℕ → Param
param_at nodes node id = param_or_none (info_in nodes node id)

-- The value of a parameter of a session at a sample, under these entries, where all parameters have these first
-- values. The rest of what the nodes' classes mean has no part in it.
abbrev pub IsValue : Content → List ℕ → List Entry → ℕ → ℕ → ℕ → ℕ → Type 0
IsValue session firsts h node id s value = (class_of : ℕ → Class) (codes : List ℕ)
    → value ≡ value_of (scene_of class_of codes firsts session) h node (param_at session.nodes node id) (slice_index firsts (place_of session.nodes node id)) s

-- a lane as its value at each sample
abbrev pub line_in : Option Lane → Option (ℕ → ℕ)
line_in None = None
line_in (Some lane) = Some (lane_value lane)

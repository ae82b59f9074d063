-- The lanes that are drawn: one on the first parameter of each node that has it to set.
use Rattle.std.specs.Prelude.{◌≡◌, ℕ, zero, suc, true, false, List, [], ◌∷◌, ◌++◌, length, Option, Some, None, if◌then◌else◌}
use Rattle.vh_params.specs.Nodes.{Node}
use Rattle.vh_session.specs.Entry.{LaneText}
use Rattle.vh_session.specs.Keeps.{can_set}
use Rattle.std.specs.Borrow.{Bor}
use Rattle.vh_params.specs.declared.param.ParamInfo.{ParamInfo}
use Rattle.vh_params.specs.Nodes.{info_in}
use Rattle.vh_gen.specs.Draws.{behind, drawn_value}

-- four breakpoints
abbrev pub breaks_from : ℕ → List (ℕ × ℕ)
breaks_from state = (0, drawn_value state 0) ∷ (16384, drawn_value state 1) ∷ (32768, drawn_value state 2) ∷ (49152, drawn_value state 3) ∷ []

abbrev pub lane_from : ℕ → ℕ → LaneText
lane_from state node = record { node = node; id = 0; grain = 12; breaks = breaks_from state }

-- a node's lane, and the state behind its draws
abbrev pub lane_at : List Node → ℕ → ℕ → List LaneText
lane_at nodes state node = if can_set nodes node 0 then lane_from state node ∷ [] else []

abbrev pub behind_lane : List Node → ℕ → ℕ → ℕ
behind_lane nodes state node = if can_set nodes node 0 then behind 4 state else state

-- the state before the draws of a node's lane, where these are the nodes and the state before all
abbrev pub lane_state : List Node → ℕ → ℕ → ℕ
lane_state nodes state zero = state
lane_state nodes state (suc node) = behind_lane nodes (lane_state nodes state node) node

-- the lanes of the first nodes, so many
abbrev pub lanes_to : List Node → ℕ → ℕ → List LaneText
lanes_to nodes state zero = []
lanes_to nodes state (suc node) = lanes_to nodes state node ++ lane_at nodes (lane_state nodes state node) node

-- those of all
abbrev pub lanes_of : List Node → ℕ → List LaneText
lanes_of nodes state = lanes_to nodes state (length nodes)

abbrev pub lanes_end : List Node → ℕ → ℕ
lanes_end nodes state = lane_state nodes state (length nodes)

-- a node's first parameter, where it can be set
abbrev pub IsFirstToSet : List Node → ℕ → Option (Bor ParamInfo) → Type 0
IsFirstToSet nodes node None = can_set nodes node 0 ≡ false
IsFirstToSet nodes node (Some param) = (can_set nodes node 0 ≡ true) × (info_in nodes node 0 ≡ Some param.now)

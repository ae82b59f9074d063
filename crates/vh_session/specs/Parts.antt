-- What a session's parts stand for.
use Rattle.std.specs.Prelude.{◌≡◌, ℕ, List, map, Vec, Option, Some, None}
use Rattle.std.specs.declared.alloc.Global.{Global}
use Rattle.vh_lane.specs.declared.lane.Lane.{Lane}
use Rattle.vh_lane.specs.Kept.{steps_of, grain_of, breaks_of}
use Rattle.vh_params.specs.declared.command.Word.{Word}
use Rattle.vh_params.specs.declared.node.NodeTable.{NodeTable}
use Rattle.vh_params.specs.declared.param.ParamInfo.{ParamInfo}
use Rattle.vh_params.specs.Nodes.{nodes_of, info_in}
use Rattle.vh_session.specs.declared.wire.Wire.{Wire}
use Rattle.vh_session.specs.Content.{Content}
use Rattle.vh_session.specs.Entry.{LaneText}
use Rattle.vh_session.specs.View.{script_text}

-- a lane with its parameter
abbrev pub laned : ℕ × ℕ × Lane → LaneText
laned lane = record { node = lane.0; id = lane.1; grain = grain_of lane.2; breaks = breaks_of lane.2 }

-- the steps of a parameter, 0 where there is none
abbrev pub steps_in : Option ParamInfo → ℕ
steps_in None = 0
steps_in (Some param) = param.steps

-- a lane has its parameter's steps
abbrev pub HasSteps : NodeTable → ℕ × ℕ × Lane → Type 0
HasSteps nodes lane = steps_of lane.2 ≡ steps_in (info_in (nodes_of nodes) lane.0 lane.1)

abbrev pub preset_text : ℕ × Vec ℕ Global → ℕ × List ℕ
preset_text preset = (preset.0, preset.1.items)

abbrev pub content_from : ℕ → ℕ → ℕ → List ℕ → NodeTable → List (ℕ × Vec ℕ Global) → List (ℕ × ℕ × ℕ) → List Wire → List (ℕ × ℕ × Lane) → List (Vec Word Global) → Content
content_from length channels bits pattern nodes presets firsts wires lanes scripts = record {
  length = length;
  channels = channels;
  bits = bits;
  pattern = pattern;
  nodes = nodes_of nodes;
  presets = map preset_text presets;
  firsts = firsts;
  wires = wires;
  lanes = map laned lanes;
  scripts = map script_text scripts;
}

-- What the lines of a session say, and what they come to.
use Rattle.std.specs.Prelude.{ℕ, ◌+◌, ◌-◌, Bool, true, false, List, [], ◌∷◌, ◌++◌, length, slice_index_or, slice_set, Option, Some, None}
use Rattle.vh_params.specs.declared.class.ClassInfo.{ClassInfo}
use Rattle.vh_params.specs.Nodes.{Node}
use Rattle.vh_params.specs.Short.{label_text}
use Rattle.vh_params.specs.Tables.{params_of, units_of}
use Rattle.vh_session.specs.declared.wire.Wire.{Wire}

-- a word of a script
pub data ScriptWord : Type 0 where
  BeginWord : ℕ → ℕ → ScriptWord
  PerformWord : ℕ → ℕ → ℕ → ScriptWord
  EndWord : ℕ → ℕ → ScriptWord
  TellWord : ℕ → List ℕ → ScriptWord
  HoldWord : ℕ → ScriptWord
  DropWord : ℕ → ScriptWord
  WaitWord : ℕ → ScriptWord

-- one line, with its names looked up
pub data Entry : Type 0 where
  LengthLine : ℕ → Entry
  ChannelsLine : ℕ → Entry
  BitsLine : ℕ → Entry
  PatternLine : List ℕ → Entry
  -- name, class
  NodeLine : List ℕ → ClassInfo → Entry
  -- node, file
  PresetLine : ℕ → List ℕ → Entry
  -- node, id, value
  ParamLine : ℕ → ℕ → ℕ → Entry
  WireLine : Wire → Entry
  -- node, id, grain, sample, value
  LaneLine : ℕ → ℕ → ℕ → ℕ → ℕ → Entry
  -- sample, value
  PointLine : ℕ → ℕ → Entry
  EditorLine : Entry
  ScriptLine : ScriptWord → Entry

-- a lane: its parameter, its grain, and its breakpoints (sample, value)
pub record LaneText : Type 0 where
  pub node : ℕ
  pub id : ℕ
  pub grain : ℕ
  pub breaks : List (ℕ × ℕ)

-- what the lines so far come to
pub record Draft : Type 0 where
  pub length : Option ℕ
  pub channels : Option ℕ
  pub bits : Option ℕ
  -- no sizes, as long as there is no such line
  pub pattern : List ℕ
  pub nodes : List Node
  -- of each node: its line, whether its class has an aux bus, its preset, and its first values (id, value)
  pub lines : List ℕ
  pub aux : List Bool
  pub presets : List (Option (List ℕ))
  pub firsts : List (List (ℕ × ℕ))
  pub wires : List Wire
  pub lanes : List LaneText
  -- whether the last line is a lane or one of its points
  pub in_lane : Bool
  -- by editor
  pub scripts : List (List ScriptWord)
  -- how many words the scripts have together
  pub script_count : ℕ

abbrev pub no_draft : Draft
no_draft = record {
  length = None;
  channels = None;
  bits = None;
  pattern = [];
  nodes = [];
  lines = [];
  aux = [];
  presets = [];
  firsts = [];
  wires = [];
  lanes = [];
  in_lane = false;
  scripts = [];
  script_count = 0;
}

-- what a line makes of each part

abbrev pub length_with : Entry → Option ℕ → Option ℕ
length_with (LengthLine n) length = Some n
length_with entry length = length

abbrev pub channels_with : Entry → Option ℕ → Option ℕ
channels_with (ChannelsLine n) channels = Some n
channels_with entry channels = channels

abbrev pub bits_with : Entry → Option ℕ → Option ℕ
bits_with (BitsLine n) bits = Some n
bits_with entry bits = bits

abbrev pub pattern_with : Entry → List ℕ → List ℕ
pattern_with (PatternLine sizes) pattern = sizes
pattern_with entry pattern = pattern

abbrev pub node_of_line : List ℕ → ClassInfo → Node
node_of_line name class = record { name = name; class_name = label_text class.name; params = params_of class.params; units = units_of class.params }

-- a node takes the next number
abbrev pub nodes_with : Entry → List Node → List Node
nodes_with (NodeLine name class) nodes = nodes ++ node_of_line name class ∷ []
nodes_with entry nodes = nodes

abbrev pub lines_with : ℕ → Entry → List ℕ → List ℕ
lines_with line (NodeLine name class) lines = lines ++ line ∷ []
lines_with line entry lines = lines

abbrev pub aux_with : Entry → List Bool → List Bool
aux_with (NodeLine name class) aux = aux ++ class.aux ∷ []
aux_with entry aux = aux

abbrev pub presets_with : Entry → List (Option (List ℕ)) → List (Option (List ℕ))
presets_with (NodeLine name class) presets = presets ++ None ∷ []
presets_with (PresetLine node file) presets = slice_set presets node (Some file)
presets_with entry presets = presets

abbrev pub firsts_with : Entry → List (List (ℕ × ℕ)) → List (List (ℕ × ℕ))
firsts_with (NodeLine name class) firsts = firsts ++ [] ∷ []
firsts_with (ParamLine node id value) firsts = slice_set firsts node (slice_index_or firsts node [] ++ (id, value) ∷ [])
firsts_with entry firsts = firsts

abbrev pub wires_with : Entry → List Wire → List Wire
wires_with (WireLine wire) wires = wires ++ wire ∷ []
wires_with entry wires = wires

-- the last of a list, changed so
abbrev pub with_last : {A : Type 0} → (A → A) → List A → List A
with_last f [] = []
with_last f (x ∷ []) = f x ∷ []
with_last f (x ∷ (y ∷ ys)) = x ∷ with_last f (y ∷ ys)

abbrev pub with_break : ℕ × ℕ → LaneText → LaneText
with_break break lane = record { node = lane.node; id = lane.id; grain = lane.grain; breaks = lane.breaks ++ break ∷ [] }

-- a point belongs to the last lane
abbrev pub lanes_with : Entry → List LaneText → List LaneText
lanes_with (LaneLine node id grain sample value) lanes = lanes ++ record { node = node; id = id; grain = grain; breaks = (sample, value) ∷ [] } ∷ []
lanes_with (PointLine sample value) lanes = with_last (with_break (sample, value)) lanes
lanes_with entry lanes = lanes

abbrev pub is_lane_line : Entry → Bool
is_lane_line (LaneLine node id grain sample value) = true
is_lane_line (PointLine sample value) = true
is_lane_line entry = false

-- a word belongs to the last editor
abbrev pub scripts_with : Entry → List (List ScriptWord) → List (List ScriptWord)
scripts_with EditorLine scripts = scripts ++ [] ∷ []
scripts_with (ScriptLine word) scripts = with_last (λ script. script ++ word ∷ []) scripts
scripts_with entry scripts = scripts

abbrev pub script_count_with : Entry → ℕ → ℕ
script_count_with (ScriptLine word) count = count + 1
script_count_with entry count = count

-- what the lines come to with a further one, of this number
abbrev pub with_entry : ℕ → Entry → Draft → Draft
with_entry line entry draft = record {
  length = length_with entry draft.length;
  channels = channels_with entry draft.channels;
  bits = bits_with entry draft.bits;
  pattern = pattern_with entry draft.pattern;
  nodes = nodes_with entry draft.nodes;
  lines = lines_with line entry draft.lines;
  aux = aux_with entry draft.aux;
  presets = presets_with entry draft.presets;
  firsts = firsts_with entry draft.firsts;
  wires = wires_with entry draft.wires;
  lanes = lanes_with entry draft.lanes;
  in_lane = is_lane_line entry;
  scripts = scripts_with entry draft.scripts;
  script_count = script_count_with entry draft.script_count;
}

abbrev pub no_lane : LaneText
no_lane = record { node = 0; id = 0; grain = 0; breaks = [] }

abbrev pub last_lane : List LaneText → LaneText
last_lane lanes = slice_index_or lanes (length lanes - 1) no_lane

-- the sample of the last breakpoint
abbrev pub last_sample : List LaneText → ℕ
last_sample lanes = (slice_index_or (last_lane lanes).breaks (length (last_lane lanes).breaks - 1) (0, 0)).0

-- how many breakpoints the last lane has
abbrev pub break_count : List LaneText → ℕ
break_count lanes = length (last_lane lanes).breaks

-- What each session keeps.
use Rattle.std.specs.Prelude.{◌≡◌, ⊤, ℕ, ◌+◌, ◌<◌, ◌≤◌, ◌==◌, nat_lt, Bool, true, false, not, ◌&&◌, ◌||◌, List, [], ◌∷◌, ◌++◌, length, map, All, Option, Some, None}
use Rattle.vh_graph.specs.Paths.{IsOnCycle}
use Rattle.vh_lane.specs.Values.{AreBreaks}
use Rattle.vh_params.specs.declared.class.ClassInfo.{ClassInfo}
use Rattle.vh_params.specs.declared.param.ParamInfo.{ParamInfo}
use Rattle.vh_params.specs.Names.{is_name}
use Rattle.vh_params.specs.Nodes.{Node, info_in}
use Rattle.vh_params.specs.Params.{AreRising}
use Rattle.vh_params.specs.Tables.{params_of, units_of}
use Rattle.vh_session.specs.declared.wire.End.{End}
use Rattle.vh_session.specs.declared.wire.End.TheVariants.{In, Out, Node as AtNode}
use Rattle.vh_session.specs.declared.wire.Wire.{Wire}
use Rattle.vh_session.specs.Entry.{ScriptWord, BeginWord, PerformWord, EndWord, TellWord, HoldWord, DropWord, WaitWord, LaneText}
use Rattle.vh_session.specs.Rules.{is_read_only, can_automate, node_named, class_named}
use Rattle.vh_text.specs.Numbers.{is_within}
use Rattle.vh_text.specs.Tokens.{IsWord}
use Rattle.vh_session.specs.Lines.{one, is_bits, is_any, has_wire, has_lane, has_aux}
use Rattle.vh_session.specs.Content.{Content, node_wires}
use Rattle.vh_session.specs.Limits.{most_frames, most_sizes, most_size, most_nodes, most_file, most_wires, most_lanes, most_grain, most_editors, most_script_words, most_numbers}

-- each of these stands rightly behind those before it
abbrev pub EachBehind : {A : Type 0} → (List A → A → Type 0) → List A → List A → Type 0
EachBehind Stands before [] = ⊤
EachBehind Stands before (x ∷ xs) = Stands before x × EachBehind Stands (before ++ x ∷ []) xs

-- at least one size, none of them 0
abbrev pub AreSizes : List ℕ → Type 0
AreSizes sizes = (1 ≤ length sizes) × (length sizes ≤ most_sizes) × All (λ size. is_within 1 most_size size ≡ true) sizes

-- a node with a name of its own
pub record IsNodeBehind (before : List Node) (node : Node) : Type 0 where
  pub named : is_name node.name ≡ true
  pub new : node_named before node.name ≡ None
  pub class : IsWord node.class_name
  pub rising : AreRising node.params

abbrev pub AreNodes : List Node → Type 0
AreNodes nodes = (length nodes ≤ most_nodes) × EachBehind IsNodeBehind [] nodes

-- the name of a file
abbrev pub IsFile : List ℕ → Type 0
IsFile file = IsWord file × (length file ≤ most_file)

-- presets by rising node, from this node on
abbrev pub ArePresets : ℕ → ℕ → List (ℕ × List ℕ) → Type 0
ArePresets count least [] = ⊤
ArePresets count least (preset ∷ presets) = (least ≤ preset.0) × (preset.0 < count) × IsFile preset.1 × ArePresets count (preset.0 + 1) presets

-- whether a parameter is there and isn't read-only
abbrev pub is_settable : Option ParamInfo → Bool
is_settable None = false
is_settable (Some param) = not (is_read_only param)

abbrev pub can_set : List Node → ℕ → ℕ → Bool
can_set nodes node id = is_settable (info_in nodes node id)

-- whether lanes may change a parameter
abbrev pub is_automated : Option ParamInfo → Bool
is_automated None = false
is_automated (Some param) = not (is_read_only param) && can_automate param

abbrev pub has_automation : List Node → ℕ → ℕ → Bool
has_automation nodes node id = is_automated (info_in nodes node id)

-- of a node before, or of the same and a lower id
abbrev pub is_earlier : ℕ × ℕ × ℕ → ℕ × ℕ × ℕ → Bool
is_earlier a b = nat_lt a.0 b.0 || ((a.0 == b.0) && nat_lt a.1 b.1)

-- a first value (node, id, value) of a parameter behind those before it
pub record IsFirstBehind (nodes : List Node) (before : List (ℕ × ℕ × ℕ)) (first : ℕ × ℕ × ℕ) : Type 0 where
  pub rising : All (λ other. is_earlier other first ≡ true) before
  pub settable : can_set nodes first.0 first.1 ≡ true
  pub id : is_any first.1 ≡ true
  pub value : is_within 0 one first.2 ≡ true

abbrev pub Begins : ℕ → End → Type 0
Begins count In = ⊤
Begins count Out = ⊥
Begins count (AtNode node) = node < count

-- an aux bus belongs to a node
abbrev pub Ends : ℕ → Bool → End → Type 0
Ends count aux In = ⊥
Ends count aux Out = aux ≡ false
Ends count aux (AtNode node) = node < count

-- a wire with an end or a bus of its own
pub record IsWireBehind (count : ℕ) (before : List Wire) (wire : Wire) : Type 0 where
  pub from : Begins count wire.from
  pub to : Ends count wire.aux wire.to
  pub new : has_wire before wire ≡ false

-- a lane on a parameter of its own
pub record IsLaneBehind (nodes : List Node) (before : List LaneText) (lane : LaneText) : Type 0 where
  pub param : has_automation nodes lane.node lane.id ≡ true
  pub id : is_any lane.id ≡ true
  pub new : has_lane before lane.node lane.id ≡ false
  pub grain : is_within 0 most_grain lane.grain ≡ true
  pub breaks : AreBreaks lane.breaks
  pub samples : All (λ break. is_within 0 most_frames break.0 ≡ true) lane.breaks

-- the numbers of a message
abbrev pub AreNumbers : List ℕ → Type 0
AreNumbers numbers = (length numbers ≤ most_numbers) × All (λ n. is_any n ≡ true) numbers

-- a script's word names a node that is there
abbrev pub IsScriptWord : ℕ → ScriptWord → Type 0
IsScriptWord count (BeginWord node id) = (node < count) × (is_any id ≡ true)
IsScriptWord count (PerformWord node id value) = (node < count) × (is_any id ≡ true) × (is_any value ≡ true)
IsScriptWord count (EndWord node id) = (node < count) × (is_any id ≡ true)
IsScriptWord count (TellWord node numbers) = (node < count) × AreNumbers numbers
IsScriptWord count (HoldWord node) = node < count
IsScriptWord count (DropWord node) = node < count
IsScriptWord count (WaitWord block) = is_any block ≡ true

abbrev pub word_count : List (List ScriptWord) → ℕ
word_count [] = 0
word_count (script ∷ scripts) = length script + word_count scripts

-- the scripts by editor
pub record AreScripts (count : ℕ) (scripts : List (List ScriptWord)) : Type 0 where
  pub few : length scripts ≤ most_editors
  pub short : word_count scripts ≤ most_script_words
  pub words : All (λ script. All (IsScriptWord count) script) scripts

pub record IsSession (content : Content) : Type 0 where
  pub frames : is_within 0 most_frames content.length ≡ true
  pub channels : is_within 1 2 content.channels ≡ true
  pub bits : is_bits content.bits ≡ true
  pub pattern : AreSizes content.pattern
  pub nodes : AreNodes content.nodes
  pub presets : ArePresets (length content.nodes) 0 content.presets
  pub firsts : EachBehind (IsFirstBehind content.nodes) [] content.firsts
  pub few_wires : length content.wires ≤ most_wires
  pub wires : EachBehind (IsWireBehind (length content.nodes)) [] content.wires
  pub free : (node : ℕ) → ¬ IsOnCycle (node_wires content.wires) node
  pub few_lanes : length content.lanes ≤ most_lanes
  pub lanes : EachBehind (IsLaneBehind content.nodes) [] content.lanes
  pub scripts : AreScripts (length content.nodes) content.scripts

-- a node has a class of these, with its parameters
abbrev pub HasClass : List ClassInfo → Node → ClassInfo → Type 0
HasClass classes node class = (class_named classes node.class_name ≡ Some class) × (params_of class.params ≡ node.params) × (units_of class.params ≡ node.units)

abbrev pub has_bus : Option ClassInfo → Bool
has_bus None = false
has_bus (Some class) = class.aux

-- of each node, whether its class has an aux bus
abbrev pub buses_of : List ClassInfo → List Node → List Bool
buses_of classes nodes = map (λ node. has_bus (class_named classes node.class_name)) nodes

-- each node has a class of these, with its parameters; each aux wire ends at a class with an aux bus
pub record StandsUnder (known : List ClassInfo) (content : Content) : Type 0 where
  pub classes : All (λ node. (class : ClassInfo) × HasClass known node class) content.nodes
  pub buses : All (λ wire. wire.aux ≡ true → has_aux (buses_of known content.nodes) wire.to ≡ true) content.wires

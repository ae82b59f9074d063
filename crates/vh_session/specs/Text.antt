-- The canonical text of a session: its lines as words, with single spaces between them.
use Rattle.std.specs.Prelude.{ℕ, ◌+◌, List, [], ◌∷◌, ◌++◌, map, if◌then◌else◌, codes}
use Rattle.std.specs.Fmt.{decimal}
use Rattle.vh_params.specs.Nodes.{Node, node_at}
use Rattle.vh_session.specs.declared.wire.End.{End}
use Rattle.vh_session.specs.declared.wire.End.TheVariants.{In, Out, Node as AtNode}
use Rattle.vh_session.specs.declared.wire.Wire.{Wire}
use Rattle.vh_session.specs.Entry.{ScriptWord, BeginWord, PerformWord, EndWord, TellWord, HoldWord, DropWord, WaitWord, LaneText}
use Rattle.vh_session.specs.Content.{Content}
use Rattle.vh_text.specs.Written.{lines_text}

abbrev pub name_of : List Node → ℕ → List ℕ
name_of nodes node = (node_at nodes node).name

abbrev pub settings_words : Content → List (List (List ℕ))
settings_words content =
    (codes "vsthost" ∷ codes "session" ∷ codes "1" ∷ [])
    ∷ (codes "length" ∷ decimal content.length ∷ [])
    ∷ (codes "channels" ∷ decimal content.channels ∷ [])
    ∷ (codes "bits" ∷ decimal content.bits ∷ [])
    ∷ (codes "pattern" ∷ map decimal content.pattern)
    ∷ []

abbrev pub node_words : Node → List (List ℕ)
node_words node = codes "node" ∷ node.name ∷ node.class_name ∷ []

abbrev pub preset_words : List Node → ℕ × List ℕ → List (List ℕ)
preset_words nodes preset = codes "preset" ∷ name_of nodes preset.0 ∷ preset.1 ∷ []

abbrev pub param_words : List Node → ℕ × ℕ × ℕ → List (List ℕ)
param_words nodes first = codes "param" ∷ name_of nodes first.0 ∷ decimal first.1 ∷ decimal first.2 ∷ []

abbrev pub end_word : List Node → End → List ℕ
end_word nodes In = codes "in"
end_word nodes Out = codes "out"
end_word nodes (AtNode node) = name_of nodes node

abbrev pub wire_words : List Node → Wire → List (List ℕ)
wire_words nodes wire = codes "wire" ∷ end_word nodes wire.from ∷ end_word nodes wire.to ∷ (if wire.aux then codes "aux" ∷ [] else [])

abbrev pub point_words : ℕ × ℕ → List (List ℕ)
point_words break = codes "point" ∷ decimal break.0 ∷ decimal break.1 ∷ []

-- a lane's first breakpoint stands in its own line, the others in lines of theirs
abbrev pub lane_with : List Node → LaneText → List (ℕ × ℕ) → List (List (List ℕ))
lane_with nodes lane [] = []
lane_with nodes lane (break ∷ breaks) =
    (codes "lane" ∷ name_of nodes lane.node ∷ decimal lane.id ∷ decimal lane.grain ∷ decimal break.0 ∷ decimal break.1 ∷ [])
    ∷ map point_words breaks

abbrev pub lane_words : List Node → LaneText → List (List (List ℕ))
lane_words nodes lane = lane_with nodes lane lane.breaks

abbrev pub lanes_words : List Node → List LaneText → List (List (List ℕ))
lanes_words nodes [] = []
lanes_words nodes (lane ∷ lanes) = lane_words nodes lane ++ lanes_words nodes lanes

abbrev pub script_words : List Node → ScriptWord → List (List ℕ)
script_words nodes (BeginWord node id) = codes "begin" ∷ name_of nodes node ∷ decimal id ∷ []
script_words nodes (PerformWord node id value) = codes "perform" ∷ name_of nodes node ∷ decimal id ∷ decimal value ∷ []
script_words nodes (EndWord node id) = codes "end" ∷ name_of nodes node ∷ decimal id ∷ []
script_words nodes (TellWord node numbers) = codes "tell" ∷ name_of nodes node ∷ map decimal numbers
script_words nodes (HoldWord node) = codes "hold" ∷ name_of nodes node ∷ []
script_words nodes (DropWord node) = codes "drop" ∷ name_of nodes node ∷ []
script_words nodes (WaitWord block) = codes "wait" ∷ decimal block ∷ []

-- the scripts, where the first of these is this editor's
abbrev pub scripts_words : List Node → ℕ → List (List ScriptWord) → List (List (List ℕ))
scripts_words nodes editor [] = []
scripts_words nodes editor (script ∷ scripts) = (codes "editor" ∷ decimal editor ∷ []) ∷ (map (script_words nodes) script ++ scripts_words nodes (editor + 1) scripts)

-- the lines in their canonical order
abbrev pub session_words : Content → List (List (List ℕ))
session_words content =
    settings_words content
    ++ (map node_words content.nodes
    ++ (map (preset_words content.nodes) content.presets
    ++ (map (param_words content.nodes) content.firsts
    ++ (map (wire_words content.nodes) content.wires
    ++ (lanes_words content.nodes content.lanes
    ++ scripts_words content.nodes 0 content.scripts)))))

unfoldable pub session_text : Content → List ℕ
session_text content = lines_text (session_words content)

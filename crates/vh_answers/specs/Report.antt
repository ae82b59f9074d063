-- The report of a rendering.
use Rattle.std.specs.Prelude.{ℕ, zero, suc, List, [], ◌∷◌, ◌++◌, map, take, drop, length, codes}
use Rattle.std.specs.Fmt.{decimal}
use Rattle.vh_params.specs.declared.command.Reply.{Reply}
use Rattle.vh_params.specs.declared.param.ParamInfo.{ParamInfo}
use Rattle.vh_params.specs.Nodes.{Node, node_at}
use Rattle.vh_params.specs.Short.{label_text, words_in}
use Rattle.vh_params.specs.ValueText.{value_text}
use Rattle.vh_text.specs.Written.{line_text}
use Rattle.vh_session.specs.Content.{Content}
use Rattle.vh_meaning.specs.Rendering.{Answer}
use Rattle.vh_answers.specs.declared.report.EditorCounts.{EditorCounts}

-- `frames L`, `pieces P`
abbrev pub setting_words : List ℕ → ℕ → List (List ℕ)
setting_words name value = name ∷ decimal value ∷ []

-- the lines before those of the parameters
abbrev pub head_text : ℕ → ℕ → List ℕ
head_text frames pieces =
    line_text (codes "vsthost" ∷ codes "report" ∷ codes "1" ∷ []) ++ (line_text (setting_words (codes "frames") frames) ++ line_text (setting_words (codes "pieces") pieces))

-- the line behind all others
abbrev pub close_text : List ℕ
close_text = line_text (codes "close" ∷ [])

-- behind the value its text, but not in a controller's other mode
abbrev pub shown_words : ParamInfo → ℕ → ℕ → List (List ℕ)
shown_words param value zero = value_text param.steps (label_text param.units) value ∷ []
shown_words param value (suc mode) = []

-- `param NODE ID VALUE TEXT`
abbrev pub param_words : List ℕ → ℕ → ParamInfo → ℕ → List (List ℕ)
param_words name mode param value = codes "param" ∷ name ∷ decimal param.id ∷ decimal value ∷ shown_words param value mode

-- of a node's parameters, by rising id
abbrev pub params_text : List ℕ → ℕ → List ParamInfo → List ℕ → List ℕ
params_text name mode [] values = []
params_text name mode (param ∷ params) [] = []
params_text name mode (param ∷ params) (value ∷ values) = line_text (param_words name mode param value) ++ params_text name mode params values

-- of all nodes, from a flat list of values and the controllers' modes
abbrev pub nodes_text : List Node → List ℕ → List ℕ → List ℕ
nodes_text [] values modes = []
nodes_text (node ∷ nodes) values [] = []
nodes_text (node ∷ nodes) values (mode ∷ modes) =
    params_text node.name mode node.params (take (length node.params) values) ++ nodes_text nodes (drop (length node.params) values) modes

-- what a processor replied, as the meaning has it
abbrev pub answer_of : Reply → Answer
answer_of reply = record { node = reply.node; sample = reply.sample; words = words_in reply.words }

-- `reply NODE SAMPLE W ..`
abbrev pub reply_words : List Node → Answer → List (List ℕ)
reply_words nodes answer = codes "reply" ∷ (node_at nodes answer.node).name ∷ decimal answer.sample ∷ map decimal answer.words

abbrev pub replies_text : List Node → List Answer → List ℕ
replies_text nodes [] = []
replies_text nodes (answer ∷ answers) = line_text (reply_words nodes answer) ++ replies_text nodes answers

-- `editor N accepted A refused R`
abbrev pub editor_words : ℕ → EditorCounts → List (List ℕ)
editor_words number editor = codes "editor" ∷ decimal number ∷ codes "accepted" ∷ decimal editor.accepted ∷ codes "refused" ∷ decimal editor.refused ∷ []

-- where the first of these has this number
abbrev pub editors_text : ℕ → List EditorCounts → List ℕ
editors_text number [] = []
editors_text number (editor ∷ editors) = line_text (editor_words number editor) ++ editors_text (suc number) editors

-- the report on a session: the number of pieces, the parameters at the end, the replies in the messages' order, and in a
-- live rendering what became of the editors' words
unfoldable pub report_text : Content → List ℕ → List ℕ → ℕ → List Answer → List EditorCounts → List ℕ
report_text content values modes pieces answers editors =
    head_text content.length pieces
    ++ (nodes_text content.nodes values modes
    ++ (replies_text content.nodes answers
    ++ (editors_text 0 editors
    ++ close_text)))

-- The words of a session's scripts name nodes that are there.
use Rattle.std.proofs.Common.{◌≡◌, ℕ, zero, suc, ◌<◌, List, [], ◌∷◌, map, length, get_or, arith}
use Rattle.std.specs.Prelude.{All, Vec}
use Rattle.std.specs.declared.alloc.Global.{Global}
use Rattle.std.proofs.lemmas.List.{length-map, get_or-map}
use Rattle.std.proofs.lemmas.List.Elements.{All-weaker, All-tail}
use Rattle.vh_params.specs.declared.command.Command.TheVariants.{Begin, Perform, End, Tell}
use Rattle.vh_params.specs.declared.command.Word.{Word}
use Rattle.vh_params.specs.declared.command.Word.TheVariants.{Edit, Hold, Unhold, Wait}
use Rattle.vh_params.specs.Nodes.{Node, nodes_of}
use Rattle.vh_gesture.specs.Rules.{NamesNode}
use Rattle.vh_session.specs.declared.session.Session.{Session}
use Rattle.vh_session.specs.Keeps.{IsScriptWord}
use Rattle.vh_session.specs.View.{script_word}
use Rattle.vh_session.proofs.PartsNamed.{names_nodes}
use Rattle.vh_legal.specs.Legal.{scripts_of, script_at}

word_names : (nodes : List Node) (word : Word) → IsScriptWord (length nodes) (script_word word) → NamesNode nodes word
word_names nodes (Edit (Begin node id)) is = is.0
word_names nodes (Edit (Perform node id value)) is = is.0
word_names nodes (Edit (End node id)) is = is.0
word_names nodes (Edit (Tell node words)) is = is.0
word_names nodes (Hold node) is = is
word_names nodes (Unhold node) is = is
word_names nodes (Wait block) is = tt

abbrev pub text_of : Vec Word Global → List Word
text_of script = script.items

words_at : (P : Word → Type 0) (scripts : List (Vec Word Global)) (editor : ℕ) → editor < length scripts → All (λ script. All P script.items) scripts → All P (script_at (map text_of scripts) editor)
words_at P [] editor within all = absurd (omega (arith, within))
words_at P (script ∷ scripts) zero within all = all 0 script within
words_at P (script ∷ scripts) (suc k) within all = words_at P scripts k (omega (arith, within)) (All-tail (λ (s : Vec Word Global). All P s.items) script scripts all)

pub script_names : (session : Session) (editor : ℕ) (d : Vec Word Global) → editor < length session.scripts.items → All (NamesNode (nodes_of session.nodes)) (get_or session.scripts.items editor d).items
script_names session editor d within =
    let nodes = nodes_of session.nodes in
    All-weaker (λ (word : Word). IsScriptWord (length nodes) (script_word word)) (NamesNode nodes) (word_names nodes) (get_or session.scripts.items editor d).items ((names_nodes session).scripts editor d within)

pub count_of_scripts : (session : Session) → length (scripts_of session) ≡ length session.scripts.items
count_of_scripts session = length-map session.scripts.items (λ (script : Vec Word Global). script.items)

pub script_is : (session : Session) (editor : ℕ) (d : Vec Word Global) → editor < length session.scripts.items → script_at (scripts_of session) editor ≡ (get_or session.scripts.items editor d).items
script_is session editor d within = get_or-map (λ (script : Vec Word Global). script.items) session.scripts.items editor d [] within

pub names_at : (session : Session) (editor : ℕ) → editor < length session.scripts.items → All (NamesNode (nodes_of session.nodes)) (script_at (scripts_of session) editor)
names_at session editor within = words_at (NamesNode (nodes_of session.nodes)) session.scripts.items editor within (script_names session)

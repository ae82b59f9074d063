-- Each command of a legal journal is a word of its editor's script.
use Rattle.std.proofs.Common.{ℕ, ◌+◌, ◌<◌, true, false, cond, List, [], ◌∷◌, ◌++◌, length, map, refl, sym, subst, arith}
use Rattle.std.specs.Prelude.{All}
use Rattle.std.specs.List.{AllByRecursion, enumerate_from}
use Rattle.std.proofs.lemmas.Bool.{eq-eqb}
use Rattle.std.proofs.lemmas.List.Elements.{All-map, recursion_from_All}
use Rattle.vh_params.specs.declared.command.Command.{Command}
use Rattle.vh_params.specs.declared.command.Word.{Word}
use Rattle.vh_params.specs.declared.command.Word.TheVariants.{Edit, Hold, Unhold, Wait}
use Rattle.vh_params.specs.Nodes.{Node, nodes_of}
use Rattle.vh_gesture.specs.Scripts.{is_accepted, accepted_behind, accepted, commands, edits}
use Rattle.vh_journal.specs.declared.entry.Entry.{Entry}
use Rattle.vh_session.specs.declared.session.Session.{Session}
use Rattle.vh_session.specs.Keeps.{IsScriptWord}
use Rattle.vh_session.specs.View.{script_word}
use Rattle.vh_session.proofs.PartsNamed.{names_nodes}
use Rattle.vh_legal.specs.Legal.{is_by, by_editor, numbered, HasPlayed, scripts_of, script_at, IsLegalFor}
use Rattle.vh_legal.proofs.Scripts.{text_of, count_of_scripts}

-- what holds of words holds of those that are accepted
accepted_keep : (P : Word → Type 0) (nodes : List Node) (before words : List Word) → AllByRecursion P words → AllByRecursion P (accepted_behind nodes before words)
accepted_keep P nodes before [] all = tt
accepted_keep P nodes before (word ∷ words) all = elim (is_accepted nodes before word) as (λ t. AllByRecursion P (cond t (word ∷ accepted_behind nodes (before ++ word ∷ []) words) (accepted_behind nodes before words))) [
  | true ↦ (all.0, accepted_keep P nodes (before ++ word ∷ []) words all.1)
  | false ↦ accepted_keep P nodes before words all.1
]

-- and of the commands among them
commands_keep : (P : Word → Type 0) (words : List Word) → AllByRecursion P words → AllByRecursion (λ command. P (Edit command)) (commands words)
commands_keep P [] all = tt
commands_keep P (Edit command ∷ words) all = (all.0, commands_keep P words all.1)
commands_keep P (Hold node ∷ words) all = commands_keep P words all.1
commands_keep P (Unhold node ∷ words) all = commands_keep P words all.1
commands_keep P (Wait block ∷ words) all = commands_keep P words all.1

numbers_keep : (P : Command → Type 0) (start : ℕ) (edits : List Command) → AllByRecursion P edits → AllByRecursion (λ (pair : ℕ × Command). P pair.1) (enumerate_from start edits)
numbers_keep P start [] all = tt
numbers_keep P start (edit ∷ edits) all = (all.0, numbers_keep P (start + 1) edits all.1)

entries_keep : (P : Command → Type 0) (own : List Entry) → AllByRecursion (λ (pair : ℕ × Command). P pair.1) (map numbered own) → AllByRecursion (λ entry. P entry.command) own
entries_keep P [] all = tt
entries_keep P (entry ∷ own) all = (all.0, entries_keep P own all.1)

-- so of the entries of an editor
own_keep : (P : Word → Type 0) (nodes : List Node) (script : List Word) (editor : ℕ) (entries : List Entry) → HasPlayed nodes script editor entries → AllByRecursion P script
    → AllByRecursion (λ entry. P (Edit entry.command)) (by_editor editor entries)
own_keep P nodes script editor entries played all =
    let Q : Command → Type 0 = λ command. P (Edit command) in
    entries_keep Q (by_editor editor entries)
    (subst (AllByRecursion (λ (pair : ℕ × Command). Q pair.1)) (sym played)
    (numbers_keep Q 0 (edits nodes script) (commands_keep P (accepted nodes script) (accepted_keep P nodes [] script all))))

-- what holds of the entries of each editor holds of all
each_keeps : (P : Entry → Type 0) (count : ℕ) (entries : List Entry) → AllByRecursion (λ entry. entry.editor < count) entries
    → ((editor : ℕ) → editor < count → AllByRecursion P (by_editor editor entries)) → AllByRecursion P entries
each_keeps P count [] within own = tt
each_keeps P count (entry ∷ entries) within own =
    let here : AllByRecursion P (entry ∷ by_editor entry.editor entries) =
    subst (λ t. AllByRecursion P (cond t (entry ∷ by_editor entry.editor entries) (by_editor entry.editor entries))) (eq-eqb entry.editor entry.editor refl) (own entry.editor within.0) in
    let rest : (editor : ℕ) → editor < count → AllByRecursion P (by_editor editor entries) =
    λ editor lt. elim (is_by editor entry) as (λ t. AllByRecursion P (cond t (entry ∷ by_editor editor entries) (by_editor editor entries)) → AllByRecursion P (by_editor editor entries)) [
      | true ↦ λ all. all.1
      | false ↦ λ all. all
    ] (own editor lt) in
    (here.0, each_keeps P count entries within.1 rest)

-- a command as a session's scripts have it
abbrev pub IsScripted : List Node → Entry → Type 0
IsScripted nodes entry = IsScriptWord (length nodes) (script_word (Edit entry.command))

-- the words of a script
script_words : (session : Session) (editor : ℕ) → editor < length session.scripts.items → All (λ word. IsScriptWord (length (nodes_of session.nodes)) (script_word word)) (script_at (scripts_of session) editor)
script_words session editor within =
    let count = count_of_scripts session in
    let P : List Word → Type 0 = λ words. All (λ word. IsScriptWord (length (nodes_of session.nodes)) (script_word word)) words in
    All-map P text_of session.scripts.items (names_nodes session).scripts editor [] (omega (arith, count, within))

pub legal_is_scripted : (session : Session) (entries : List Entry) → IsLegalFor session entries → AllByRecursion (IsScripted (nodes_of session.nodes)) entries
legal_is_scripted session entries legal =
    let nodes = nodes_of session.nodes in
    let scripts = scripts_of session in
    let count = count_of_scripts session in
    let P : Word → Type 0 = λ word. IsScriptWord (length nodes) (script_word word) in
    each_keeps (IsScripted nodes) (length scripts) entries (recursion_from_All (λ (entry : Entry). entry.editor < length scripts) entries legal.editors)
    (λ editor lt. own_keep P nodes (script_at scripts editor) editor entries (legal.played editor lt) (recursion_from_All P (script_at scripts editor) (script_words session editor (omega (arith, count, lt)))))

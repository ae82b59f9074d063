-- Which journals a session's editors can have made.
use Rattle.std.specs.Prelude.{◌≡◌, ◌<◌, ◌≤◌, ℕ, ◌==◌, Bool, List, [], length, map, filter, slice_index_or, All, AllPairs}
use Rattle.std.specs.List.{enumerate_from}
use Rattle.vh_params.specs.Nodes.{Node, nodes_of}
use Rattle.vh_params.specs.declared.command.Command.{Command}
use Rattle.vh_params.specs.declared.command.Word.{Word}
use Rattle.vh_journal.specs.declared.entry.Entry.{Entry}
use Rattle.vh_gesture.specs.Scripts.{edits}
use Rattle.vh_session.specs.declared.session.Session.{Session}
use Rattle.vh_session.specs.Names.{content_of}
use Rattle.vh_legal.specs.Blocks.{IsAtBlock}

-- the entries of an editor, in order
abbrev pub is_by : ℕ → Entry → Bool
is_by editor entry = entry.editor == editor

abbrev pub by_editor : ℕ → List Entry → List Entry
by_editor editor entries = filter (is_by editor) entries

-- an entry's number among those of its editor, and what the editor did
abbrev pub numbered : Entry → ℕ × Command
numbered entry = (entry.seq, entry.command)

-- the entries of an editor are its script's edits and messages, each once, in order, numbered from 0
abbrev pub HasPlayed : List Node → List Word → ℕ → List Entry → Type 0
HasPlayed nodes script editor entries = map numbered (by_editor editor entries) ≡ enumerate_from 0 (edits nodes script)

abbrev pub NeverFall : List Entry → Type 0
NeverFall entries = AllPairs (λ entry later. entry.sample ≤ later.sample) entries

abbrev pub script_at : List (List Word) → ℕ → List Word
script_at scripts editor = slice_index_or scripts editor []

-- A journal that editors with these scripts can have made of a rendering of so many samples. Its samples never fall;
-- each is one where a block begins, with nothing to stop one, or the length.
pub record IsLegal (nodes : List Node) (samples : ℕ) (pattern : List ℕ) (scripts : List (List Word)) (entries : List Entry) : Type 0 where
  pub rising : NeverFall entries
  pub within : All (λ entry. entry.sample ≤ samples) entries
  pub blocks : All (λ entry. IsAtBlock samples pattern entry.sample) entries
  pub editors : All (λ entry. entry.editor < length scripts) entries
  pub played : (editor : ℕ) → editor < length scripts → HasPlayed nodes (script_at scripts editor) editor entries

-- a session's scripts, by editor
abbrev pub scripts_of : Session → List (List Word)
scripts_of session = map (λ script. script.items) session.scripts.items

abbrev pub IsLegalFor : Session → List Entry → Type 0
IsLegalFor session entries = IsLegal (nodes_of session.nodes) session.length (content_of session).pattern (scripts_of session) entries

-- what of this can be seen without the scripts, where there are so many
pub record ArePlaced (samples : ℕ) (pattern : List ℕ) (editors : ℕ) (entries : List Entry) : Type 0 where
  pub rising : NeverFall entries
  pub blocks : All (λ entry. IsAtBlock samples pattern entry.sample) entries
  pub editors_are : All (λ entry. entry.editor < editors) entries

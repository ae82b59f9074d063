-- What stands in a journal while editors are at it.
use Rattle.std.specs.Prelude.{◌≡◌, ◌<◌, ◌≤◌, ℕ, List, length, map, take, All}
use Rattle.std.specs.List.{enumerate_from}
use Rattle.vh_params.specs.Nodes.{Node, nodes_of}
use Rattle.vh_params.specs.declared.command.Word.{Word}
use Rattle.vh_gesture.specs.Scripts.{edits}
use Rattle.vh_journal.specs.declared.entry.Entry.{Entry}
use Rattle.vh_session.specs.declared.session.Session.{Session}
use Rattle.vh_session.specs.Names.{content_of}
use Rattle.vh_legal.specs.Blocks.{IsAtBlock}
use Rattle.vh_legal.specs.Legal.{by_editor, numbered, NeverFall, script_at, scripts_of}

-- the entries of an editor are the first of its script's edits and messages, as many as there are, each once, in order,
-- numbered from 0
abbrev pub HasBegun : List Node → List Word → ℕ → List Entry → Type 0
HasBegun nodes script editor entries =
    map numbered (by_editor editor entries) ≡ take (length (by_editor editor entries)) (enumerate_from 0 (edits nodes script))

-- A journal of editors with these scripts as far as they came, in a rendering of so many samples. Its samples never fall;
-- each is one where a block begins, with nothing to stop one, or the length.
pub record IsBegun (nodes : List Node) (samples : ℕ) (pattern : List ℕ) (scripts : List (List Word)) (entries : List Entry) : Type 0 where
  pub rising : NeverFall entries
  pub within : All (λ entry. entry.sample ≤ samples) entries
  pub blocks : All (λ entry. IsAtBlock samples pattern entry.sample) entries
  pub editors : All (λ entry. entry.editor < length scripts) entries
  pub begun : (editor : ℕ) → editor < length scripts → HasBegun nodes (script_at scripts editor) editor entries

abbrev pub IsBegunFor : Session → List Entry → Type 0
IsBegunFor session entries = IsBegun (nodes_of session.nodes) session.length (content_of session).pattern (scripts_of session) entries

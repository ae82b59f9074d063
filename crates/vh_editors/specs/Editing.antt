-- What an editor's script does at its desk.
use Rattle.std.specs.Prelude.{◌≤◌, ◌+◌, ℕ, List, [], ◌∷◌, length, sum, slice_index, All, if◌then◌else◌}
use Rattle.vh_params.specs.Nodes.{Node}
use Rattle.vh_params.specs.declared.command.Word.{Word}
use Rattle.vh_gesture.specs.Rules.{NamesNode}
use Rattle.vh_gesture.specs.Scripts.{is_wait, commands}
use Rattle.vh_gesture.specs.Tables.{Table, IsOf, accepts, after}
use Rattle.vh_inbox.specs.Values.{AtDesk, performed, refused_once_more}
use Rattle.vh_editors.specs.declared.editor.Editor.{Editor}

-- the desk after a word; a wait asks the desk nothing
abbrev pub stepped : List Node → AtDesk → Word → AtDesk
stepped nodes desk word = if accepts nodes desk.table word then performed desk word else (if is_wait word then desk else refused_once_more desk)

-- and after these words, one after another
abbrev pub through : List Node → AtDesk → List Word → AtDesk
through nodes desk [] = desk
through nodes desk (word ∷ words) = through nodes (stepped nodes desk word) words

-- an editor whose script was worked through
abbrev pub worked : List Node → Editor → Editor
worked nodes editor = record editor { desk = through nodes editor.desk editor.script.items }

-- an editor may run these words at its desk: each names a node that is there, and there is room for their commands,
-- at the desk and in the inbox
pub record MayRun (nodes : List Node) (desk : AtDesk) (words : List Word) : Type 0 where
  pub table : IsOf nodes desk.table
  pub names : All (NamesNode nodes) words
  pub room : length desk.list + length (commands words) ≤ slice_index desk.quotas desk.number
  pub never_full : sum desk.quotas ≤ desk.capacity
  pub short : length words ≤ 4096

abbrev pub MayWork : List Node → Editor → Type 0
MayWork nodes editor = MayRun nodes editor.desk editor.script.items

-- how many of these words, the waits aside, a table doesn't accept, one after another
abbrev pub refused_by : List Node → Table → List Word → ℕ
refused_by nodes table [] = 0
refused_by nodes table (word ∷ words) =
    if accepts nodes table word then refused_by nodes (after table word) words else (if is_wait word then refused_by nodes table words else refused_by nodes table words + 1)

-- What stands in a journal, whoever made it.
use Rattle.std.specs.Prelude.{◌≡◌, ◌<◌, ◌≤◌, ◌^◌, ℕ, true, List, [], length, map, All}
use Rattle.vh_params.specs.Nodes.{Node}
use Rattle.vh_params.specs.declared.command.Command.{Command}
use Rattle.vh_params.specs.declared.command.Command.TheVariants.{Begin, Perform, End, Tell}
use Rattle.vh_params.specs.declared.command.Word.TheVariants.{Edit}
use Rattle.vh_journal.specs.declared.entry.Entry.{Entry}
use Rattle.vh_gesture.specs.Scripts.{counts_after}
use Rattle.vh_session.specs.Keeps.{EachBehind, can_set}
use Rattle.vh_legal.specs.Legal.{by_editor}

-- an edit of a parameter that is there and can be set, or a message to a node that is there
abbrev pub IsOnParam : List Node → Command → Type 0
IsOnParam nodes (Begin node id) = can_set nodes node id ≡ true
IsOnParam nodes (Perform node id value) = (can_set nodes node id ≡ true) × (value ≤ 2 ^ 24)
IsOnParam nodes (End node id) = can_set nodes node id ≡ true
IsOnParam nodes (Tell node words) = node < length nodes

-- how many gestures on a parameter are open after these commands of an editor
abbrev pub open_after : List Command → ℕ → ℕ → ℕ
open_after commands node id = (counts_after (map Edit commands)).opened node id

-- a gesture begins where the editor has none open on the parameter, and goes on or ends where it has one
abbrev pub IsInTurn : List Command → Command → Type 0
IsInTurn before (Begin node id) = open_after before node id ≡ 0
IsInTurn before (Perform node id value) = open_after before node id ≡ 1
IsInTurn before (End node id) = open_after before node id ≡ 1
IsInTurn before (Tell node words) = Unit {0}

abbrev pub commands_of : List Entry → List Command
commands_of entries = map (λ entry. entry.command) entries

-- an entry may stand behind these, in a journal of a rendering of so many samples: there are at most 4096, of editors
-- 0 to 7, by rising sample; each editor's are numbered from 0, and its gestures begin and end in turn
pub record MayStandBehind (nodes : List Node) (samples : ℕ) (before : List Entry) (entry : Entry) : Type 0 where
  pub few : length before < 4096
  pub editor : entry.editor < 8
  pub within : entry.sample ≤ samples
  pub rising : All (λ other. other.sample ≤ entry.sample) before
  pub param : IsOnParam nodes entry.command
  pub number : entry.seq ≡ length (by_editor entry.editor before)
  pub turn : IsInTurn (commands_of (by_editor entry.editor before)) entry.command

abbrev pub IsJournal : List Node → ℕ → List Entry → Type 0
IsJournal nodes samples entries = EachBehind (MayStandBehind nodes samples) [] entries

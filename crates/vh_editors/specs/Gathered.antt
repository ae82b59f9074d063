-- What is read of editors at their desks.
use Rattle.std.specs.Prelude.{◌≡◌, ◌<◌, ℕ, List, length, map, slice_index_or}
use Rattle.vh_params.specs.declared.command.Word.{Word}
use Rattle.vh_inbox.specs.declared.rule.DeskList.{DeskList}
use Rattle.vh_inbox.specs.Lists.{desk_list}
use Rattle.vh_inbox.specs.Values.{AtDesk}
use Rattle.vh_editors.specs.declared.editor.Editor.{Editor}

abbrev pub script_in : Editor → List Word
script_in editor = editor.script.items

-- what each put
abbrev pub list_in : Editor → DeskList
list_in editor = desk_list editor.desk.number editor.desk.list

abbrev pub listed : List Editor → List DeskList
listed editors = map list_in editors

abbrev pub refused_at : Editor → ℕ
refused_at editor = editor.desk.refused

-- each editor has its place for its number, and sits at the desk of that number
abbrev pub ArePlaced : List AtDesk → List Editor → Type 0
ArePlaced desks editors = (k : ℕ) (d : Editor) → k < length editors → ((slice_index_or editors k d).number ≡ k) × ((slice_index_or editors k d).desk ≡ slice_index_or desks k d.desk)

-- Editors at their desks.
use Rattle.std.specs.Prelude.{◌≡◌, ◌≤◌, ◌<◌, ℕ, Bool, List, [], length, map, sum, slice_index_or, All, if◌then◌else◌}
use Rattle.vh_params.specs.Nodes.{Node, nodes_of}
use Rattle.vh_params.specs.declared.command.Word.{Word}
use Rattle.vh_gesture.specs.Rules.{NamesNode}
use Rattle.vh_inbox.specs.Values.{TableId, new_desk}
use Rattle.vh_editors.specs.declared.editor.Editor.{Editor}
use Rattle.vh_editors.specs.declared.editors.Editors.TheInside.{Inside}
use Rattle.vh_editors.specs.Editing.{through}
use Rattle.vh_editors.specs.Gathered.{script_in}
use Rattle.vh_editors.specs.Scripts.{quotas_of}
use Rattle.vh_editors.specs.Values.{AtEditors}

abbrev pub inbox_in : Editor → TableId
inbox_in editor = editor.desk.inbox

abbrev pub editors_of : Inside → AtEditors
editors_of inside = record {
  inboxes = map inbox_in inside.list.items;
  nodes = nodes_of inside.nodes;
  scripts = map script_in inside.list.items;
  done = inside.done;
}

-- An editor's desk is the one of its number in an inbox that has room for the commands of all scripts: as it was made,
-- or, once the editor is done, as its whole script leaves it.
pub record IsSeated (nodes : List Node) (scripts : List (List Word)) (done : Bool) (number : ℕ) (editor : Editor) : Type 0 where
  pub number_is : editor.number ≡ number
  pub desk : editor.desk ≡ through nodes (new_desk editor.desk.inbox editor.desk.capacity (quotas_of scripts) nodes number) (if done then editor.script.items else [])
  pub names : All (NamesNode nodes) editor.script.items
  pub short : length editor.script.items ≤ 4096
  pub capacity : sum (quotas_of scripts) ≤ editor.desk.capacity

abbrev pub AreSeated : List Node → List (List Word) → Bool → List Editor → Type 0
AreSeated nodes scripts done editors = (k : ℕ) (d : Editor) → k < length editors → IsSeated nodes scripts done k (slice_index_or editors k d)

pub record Keeps (inside : Inside) : Type 0 where
  pub edits : inside.edits ≡ sum (quotas_of (map script_in inside.list.items))
  pub are_seated : AreSeated (nodes_of inside.nodes) (map script_in inside.list.items) inside.done inside.list.items

-- Which words are accepted, of all that editors put.
use Rattle.std.specs.Prelude.{ℕ, Bool, true, ◌==◌, ◌&&◌, nat_lt, List, [], ◌∷◌, length, map, filter, if◌then◌else◌}
use Rattle.vh_params.specs.declared.command.Command.{Command}
use Rattle.vh_params.specs.declared.command.Command.TheVariants.{Begin, Perform, End, Tell}
use Rattle.vh_params.specs.declared.command.Word.{Word}
use Rattle.vh_params.specs.declared.command.Word.TheVariants.{Edit, Hold, Unhold, Wait}
use Rattle.vh_params.specs.Nodes.{Node}
use Rattle.vh_gesture.specs.Scripts.{accepted, is_accepted, edits}
use Rattle.vh_core.specs.declared.sent.Sent.{Sent}

-- a word's node is there
abbrev pub names_node : List Node → Word → Bool
names_node nodes (Edit (Begin node id)) = nat_lt node (length nodes)
names_node nodes (Edit (Perform node id value)) = nat_lt node (length nodes)
names_node nodes (Edit (End node id)) = nat_lt node (length nodes)
names_node nodes (Edit (Tell node words)) = nat_lt node (length nodes)
names_node nodes (Hold node) = nat_lt node (length nodes)
names_node nodes (Unhold node) = nat_lt node (length nodes)
names_node nodes (Wait block) = true

-- the words that an editor put, in order, but for those whose node isn't there: these are never accepted
abbrev pub words_by : List Node → ℕ → List (ℕ × Word) → List Word
words_by nodes editor puts = filter (names_node nodes) (map (λ put. put.1) (filter (λ put. put.0 == editor) puts))

-- the edits and messages that they come to
abbrev pub edits_by : List Node → ℕ → List (ℕ × Word) → List Command
edits_by nodes editor puts = edits nodes (words_by nodes editor puts)

-- a word of an editor is accepted behind these: no other editor's word takes part
abbrev pub accepts : List Node → List (ℕ × Word) → ℕ → Word → Bool
accepts nodes puts editor word = names_node nodes word && is_accepted nodes (accepted nodes (words_by nodes editor puts)) word

-- what then waits to be taken: an edit or a message that is accepted, with the editor's next number
abbrev pub sent_by : List Node → List (ℕ × Word) → ℕ → Word → List Sent
sent_by nodes puts editor (Edit command) =
    if accepts nodes puts editor (Edit command) then record { editor = editor; seq = length (edits_by nodes editor puts); command = command } ∷ [] else []
sent_by nodes puts editor (Hold node) = []
sent_by nodes puts editor (Unhold node) = []
sent_by nodes puts editor (Wait block) = []

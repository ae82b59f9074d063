-- The table of an editor's gestures: numbers, and no words.
use Rattle.std.specs.Prelude.{◌≡◌, ℕ, suc, ◌+◌, ◌-◌, Bool, true, false, not, ◌&&◌, ◌==◌, is_none, List, [], ◌∷◌, ◌++◌, length, map, replicate, slice_index_or, slice_set, Option, if◌then◌else◌}
use Rattle.std.specs.List.{list_any}
use Rattle.vh_params.specs.Nodes.{Node}
use Rattle.vh_params.specs.declared.param.ParamInfo.{ParamInfo}
use Rattle.vh_params.specs.declared.command.Command.TheVariants.{Begin, End}
use Rattle.vh_params.specs.declared.command.Word.{Word}
use Rattle.vh_params.specs.declared.command.Word.TheVariants.{Edit, Hold, Unhold}
use Rattle.vh_gesture.specs.declared.fault.GestureFault.{GestureFault}
use Rattle.vh_gesture.specs.declared.gestures.References.{References}
use Rattle.vh_gesture.specs.declared.gestures.Gate.{Gate}
use Rattle.vh_gesture.specs.Rules.{Counts, fault}
use Rattle.vh_gesture.specs.Scripts.{is_wait}

-- of each node its holds and references, and of each parameter whether its gesture is open
pub record Table : Type 0 where
  pub references : List References
  pub gates : List Gate

abbrev pub one_reference : References
one_reference = record { holds = 0; held = 1 }

abbrev pub references_at : Table → ℕ → References
references_at table node = slice_index_or table.references node one_reference

abbrev pub is_at : ℕ → ℕ → Gate → Bool
is_at node id gate = (gate.node == node) && (gate.id == id)

abbrev pub is_open : List Gate → ℕ → ℕ → Bool
is_open gates node id = list_any (λ gate. is_at node id gate && gate.opened) gates

-- what the table says that the editor has
abbrev pub counts_in : Table → Counts
counts_in table = record {
  holds = λ node. (references_at table node).holds;
  held = λ node. (references_at table node).held;
  opened = λ node id. if is_open table.gates node id then 1 else 0;
}

-- why the next word is refused
abbrev pub fault_at : List Node → Table → Word → Option GestureFault
fault_at nodes table word = fault nodes (counts_in table) word

abbrev pub gates_of : ℕ → List ParamInfo → List Gate
gates_of node params = map (λ param. record { node = node; id = param.id; opened = false }) params

-- of nodes from this number on
abbrev pub gates_from : ℕ → List Node → List Gate
gates_from number [] = []
gates_from number (node ∷ nodes) = gates_of number node.params ++ gates_from (suc number) nodes

-- nothing is open, and there is one reference to each node
abbrev pub fresh : List Node → Table
fresh nodes = record { references = replicate (length nodes) one_reference; gates = gates_from 0 nodes }

-- the gestures of a parameter are open, or not
abbrev pub marked : ℕ → ℕ → Bool → Gate → Gate
marked node id opened gate = if is_at node id gate then record gate { opened = opened } else gate

abbrev pub mark : ℕ → ℕ → Bool → List Gate → List Gate
mark node id opened gates = map (marked node id opened) gates

abbrev pub held_once_more : References → References
held_once_more references = record { holds = references.holds + 1; held = references.held + 1 }

abbrev pub held_once_less : References → References
held_once_less references = record { holds = references.holds; held = references.held - 1 }

-- the table after an accepted word
abbrev pub after : Table → Word → Table
after table (Edit (Begin node id)) = record table { gates = mark node id true table.gates }
after table (Edit (End node id)) = record table { gates = mark node id false table.gates }
after table (Hold node) = record table { references = slice_set table.references node (held_once_more (references_at table node)) }
after table (Unhold node) = record table { references = slice_set table.references node (held_once_less (references_at table node)) }
after table _ = table

abbrev pub key_of : Gate → ℕ × ℕ
key_of gate = (gate.node, gate.id)

-- the table is one of these nodes, and of the parameters that they have
pub record IsOf (nodes : List Node) (table : Table) : Type 0 where
  pub count : length table.references ≡ length nodes
  pub keys : map key_of table.gates ≡ map key_of (gates_from 0 nodes)

-- what a table accepts of these words, one after another; a wait is no word of the editor's own
abbrev pub accepts : List Node → Table → Word → Bool
accepts nodes table word = not (is_wait word) && is_none (fault_at nodes table word)

abbrev pub accepted_by : List Node → Table → List Word → List Word
accepted_by nodes table [] = []
accepted_by nodes table (word ∷ words) =
    if accepts nodes table word then word ∷ accepted_by nodes (after table word) words else accepted_by nodes table words

-- and the table that it is then
abbrev pub table_after : List Node → Table → List Word → Table
table_after nodes table [] = table
table_after nodes table (word ∷ words) =
    if accepts nodes table word then table_after nodes (after table word) words else table_after nodes table words

-- What callers see of a table of nodes.
use Rattle.std.specs.Prelude.{◌≢◌, ℕ, ◌<◌, nat_lt, List, [], length, map, slice_index_or, Option, None, if◌then◌else◌}
use Rattle.vh_params.specs.declared.label.Label.{Label}
use Rattle.vh_params.specs.declared.param.ParamInfo.{ParamInfo}
use Rattle.vh_params.specs.declared.param.UnitInfo.{UnitInfo}
use Rattle.vh_params.specs.declared.class.ClassInfo.{ClassInfo}
use Rattle.vh_params.specs.declared.node.Node.{Node as Stored}
use Rattle.vh_params.specs.declared.node.NodeTable.{NodeTable}
use Rattle.vh_params.specs.Params.{param_in}
use Rattle.vh_params.specs.Short.{label_text}
use Rattle.vh_params.specs.Tables.{params_of, units_of}

-- a node: its name, its class's name, and its parameters and units
pub record Node : Type 0 where
  pub name : List ℕ
  pub class_name : List ℕ
  pub params : List ParamInfo
  pub units : List UnitInfo

-- what is stored of a node
abbrev pub Entry : Type 0
Entry = Label × Stored

-- a node that is stored
abbrev pub stored_node : Entry → Node
stored_node entry =
    record { name = label_text entry.0; class_name = label_text entry.1.class_name; params = params_of entry.1.table; units = units_of entry.1.table }

-- the nodes, by number
abbrev pub nodes_of : NodeTable → List Node
nodes_of table = map stored_node table.nodes.entries

abbrev pub no_node : Node
no_node = record { name = []; class_name = []; params = []; units = [] }

-- the node of this number
abbrev pub node_at : List Node → ℕ → Node
node_at nodes node = slice_index_or nodes node no_node

-- no node has this name
abbrev pub LacksName : List Node → List ℕ → Type 0
LacksName nodes name = (node : ℕ) → node < length nodes → (node_at nodes node).name ≢ name

-- no two nodes have one name
abbrev pub AreApart : List Node → Type 0
AreApart nodes = (i j : ℕ) → i < j → j < length nodes → (node_at nodes i).name ≢ (node_at nodes j).name

-- a node of this name and class
abbrev pub node_of : Label → ClassInfo → Node
node_of name class = record { name = label_text name; class_name = label_text class.name; params = params_of class.params; units = units_of class.params }

-- a node's parameter, none where the node or the parameter isn't there
abbrev pub info_in : List Node → ℕ → ℕ → Option ParamInfo
info_in nodes node id = if nat_lt node (length nodes) then param_in (node_at nodes node).params id else None

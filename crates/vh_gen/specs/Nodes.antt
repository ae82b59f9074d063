-- The nodes of a number, and their wires.
use Rattle.std.specs.Prelude.{ℕ, zero, suc, ◌+◌, ◌==◌, List, [], ◌++◌, length, map, slice_get, slice_index, Option, Some, None, false, if◌then◌else◌, codes}
use Rattle.std.specs.Fmt.{decimal}
use Rattle.std.specs.List.{range_with_len}
use Rattle.vh_params.specs.declared.class.ClassInfo.{ClassInfo}
use Rattle.vh_params.specs.Nodes.{Node}
use Rattle.vh_params.specs.Short.{label_text}
use Rattle.vh_params.specs.Tables.{params_of, units_of}
use Rattle.vh_session.specs.declared.wire.End.{End}
use Rattle.vh_session.specs.declared.wire.End.TheVariants.{In, Out, Node as AtNode}
use Rattle.vh_session.specs.declared.wire.Wire.{Wire}
use Rattle.vh_gen.specs.Draws.{behind, draw}

-- the first draw: 8 to 32 nodes
abbrev pub node_total : ℕ → ℕ
node_total number = 8 + draw number 0 25

-- the state behind a node's draws, from the one before them: two of each node, but one of the first
abbrev pub behind_node : ℕ → ℕ → ℕ
behind_node node state = if node == 0 then behind 1 state else behind 2 state

-- the state before a node's draws, from the one before those of all nodes
abbrev pub node_state : ℕ → ℕ → ℕ
node_state state zero = state
node_state state (suc node) = behind_node node (node_state state node)

-- first the node's class, by its place among the first eight
abbrev pub kind_at : ℕ → ℕ → ℕ
kind_at state node = draw (node_state state node) 0 8

-- then where its wire begins: of the first node at the input, of each other at a node before it
abbrev pub source_from : ℕ → ℕ → End
source_from state node = if node == 0 then In else AtNode (draw state 1 node)

abbrev pub wire_in : ℕ → ℕ → Wire
wire_in state node = record { from = source_from (node_state state node) node; to = AtNode node; aux = false }

abbrev pub wire_out : ℕ → Wire
wire_out node = record { from = AtNode node; to = Out; aux = false }

abbrev pub kinds_from : ℕ → ℕ → List ℕ
kinds_from state count = map (kind_at state) (range_with_len 0 count)

-- the wires that are drawn, then one from each node to the output
abbrev pub wires_from : ℕ → ℕ → List Wire
wires_from state count = map (wire_in state) (range_with_len 0 count) ++ map wire_out (range_with_len 0 count)

abbrev pub kinds_of : ℕ → List ℕ
kinds_of number = kinds_from (behind 1 number) (node_total number)

abbrev pub wires_of : ℕ → List Wire
wires_of number = wires_from (behind 1 number) (node_total number)

-- `n` and the node's number
abbrev pub name_of : ℕ → List ℕ
name_of node = codes "n" ++ decimal node

-- a node of this name, with what is known of its class
abbrev pub of_class : List ℕ → Option ClassInfo → Node
of_class name None = record { name = name; class_name = []; params = []; units = [] }
of_class name (Some class) = record { name = name; class_name = label_text class.name; params = params_of class.params; units = units_of class.params }

abbrev pub node_of : List ClassInfo → List ℕ → ℕ → Node
node_of known kinds node = of_class (name_of node) (slice_get known (slice_index kinds node))

abbrev pub nodes_of : List ClassInfo → List ℕ → List Node
nodes_of known kinds = map (node_of known kinds) (range_with_len 0 (length kinds))

-- the state behind all nodes
abbrev pub nodes_end : ℕ → ℕ
nodes_end number = node_state (behind 1 number) (node_total number)

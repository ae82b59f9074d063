-- What is seen of a graph.
use Rattle.std.specs.Prelude.{⊤, ℕ, List, length, slice_index_or}
use Rattle.vh_graph.specs.declared.graph.Graph.{Graph}
use Rattle.vh_graph.specs.declared.graph.Cycle.{Cycle}
use Rattle.vh_num.specs.declared.refusal.Refusal.{Refusal}
use Rattle.vh_num.specs.declared.refusal.Refusal.TheVariants.{Fault, Memory}
use Rattle.vh_graph.specs.Paths.{IsLeastOnCycle}

abbrev pub node_count : Graph → ℕ
node_count graph = length graph.sources.items

abbrev pub order_in : Graph → List ℕ
order_in graph = graph.order.items

abbrev pub layers_in : Graph → List ℕ
layers_in graph = graph.layers.items

abbrev pub sources_in : Graph → ℕ → List ℕ
sources_in graph node = (slice_index_or graph.sources.items node graph.order).items

-- a fault names the least node that is on a cycle
abbrev pub NamesLeast : List (ℕ × ℕ) → Refusal Cycle → Type 0
NamesLeast wires (Fault cycle) = IsLeastOnCycle wires cycle.node
NamesLeast wires Memory = ⊤

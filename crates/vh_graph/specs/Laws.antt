-- What the rules on the order come to.
use Rattle.std.specs.Prelude.{◌≡◌, ◌↔◌, ◌<◌, ℕ, List, length, slice_index_or, Contains, All}
use Rattle.vh_graph.specs.Paths.{sources_of, IsOnCycle, AreLayers}
use Rattle.vh_graph.specs.Order.{IsOrder}

-- the two rules determine the order
abbrev pub OrderIsDetermined : Type 0
OrderIsDetermined = (nodes : ℕ) (wires : List (ℕ × ℕ)) (one other : List ℕ) → IsOrder nodes wires one → IsOrder nodes wires other → one ≡ other

-- every node stands after its sources
abbrev pub EachAfterItsSources : Type 0
EachAfterItsSources = (nodes : ℕ) (wires : List (ℕ × ℕ)) (order : List ℕ) → IsOrder nodes wires order →
    (i d source : ℕ) → i < length order → Contains (sources_of wires (slice_index_or order i d)) source →
    (j : ℕ) × (j < i) × (slice_index_or order j d ≡ source)

-- there is an order exactly where no node is on a cycle
abbrev pub OrderExactlyWithoutCycle : Type 0
OrderExactlyWithoutCycle = (nodes : ℕ) (wires : List (ℕ × ℕ)) → All (λ wire. (wire.0 < nodes) × (wire.1 < nodes)) wires →
    ((order : List ℕ) × IsOrder nodes wires order) ↔ ((node : ℕ) → ¬ IsOnCycle wires node)

-- a node's sources are in lower layers
abbrev pub SourcesAreLower : Type 0
SourcesAreLower = (wires : List (ℕ × ℕ)) (layers : List ℕ) → AreLayers wires layers →
    (node source d : ℕ) → node < length layers → source < length layers → Contains (sources_of wires node) source →
    slice_index_or layers source d < slice_index_or layers node d

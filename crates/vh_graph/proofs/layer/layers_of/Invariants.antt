use Rattle.std.proofs.Common.{◌≡◌, ◌≤◌, ℕ, List, length}
use Rattle.std.specs.Prelude.{All}
use Rattle.vh_graph.specs.Paths.{AreLinked}
use Rattle.vh_graph.specs.Order.{IsOrder}
use Rattle.vh_graph.proofs.Layered.{AreLayered}
use Rattle.vh_graph.proofs.layer.layers_of.Given as goal

abbrev pub invariant-loop-node : goal.invariant-loop-node
invariant-loop-node l = (length l.layers.items ≡ length l.sources) × All (λ layer. layer ≤ l.node-index) l.layers.items
    × ((wires : List (ℕ × ℕ)) → AreLinked wires l.sources → IsOrder (length l.sources) wires l.order → AreLayered wires l.order l.node-index l.layers.items)

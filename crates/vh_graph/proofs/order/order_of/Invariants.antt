use Rattle.std.proofs.Common.{◌≡◌, ◌-◌, [], length, drop}
use Rattle.std.specs.List.{range_with_len}
use Rattle.vh_graph.proofs.Turns.{KeepsPlacing}
use Rattle.vh_graph.proofs.order.order_of.Given as goal

abbrev pub invariant-loop-node : goal.invariant-loop-node
invariant-loop-node l = KeepsPlacing l.sources l.placing (range_with_len l.node (length l.sources - l.node))

abbrev pub invariant-loop-node-2 : goal.invariant-loop-node-2
invariant-loop-node-2 l = KeepsPlacing l.sources l.placing []

abbrev pub decreases-loop-node-2 : goal.decreases-loop-node-2
decreases-loop-node-2 l = length l.sources - length l.placing.order.items

abbrev pub invariant-loop-next : goal.invariant-loop-next
invariant-loop-next l = KeepsPlacing l.sources l.placing (drop l.next-index l.next-items) × (l.placing.order.items ≡ l.initial.placing.order.items)

use Rattle.std.proofs.Common.{◌≡◌, length, take}
use Rattle.vh_graph.specs.Paths.{AreSources}
use Rattle.vh_graph.proofs.wires.sources_by_node.Given as goal

abbrev pub invariant-loop-source : goal.invariant-loop-source
invariant-loop-source l = (length l.sources.items ≡ l.nodes) × AreSources (take l.source-index l.wires) l.sources.items

use Rattle.std.proofs.Common.{take}
use Rattle.vh_graph.specs.Steps.{IsAbove}
use Rattle.vh_graph.proofs.layer.layer_above.Given as goal

abbrev pub invariant-loop-source : goal.invariant-loop-source
invariant-loop-source l = IsAbove l.layers (take l.source-index l.sources) l.layer

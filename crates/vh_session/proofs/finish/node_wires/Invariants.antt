use Rattle.std.proofs.Common.{◌≡◌, ◌<◌, take}
use Rattle.std.specs.Prelude.{All}
use Rattle.vh_session.specs.Content.{node_wires}
use Rattle.vh_session.proofs.finish.node_wires.Given as goal

abbrev pub invariant-loop-wire : goal.invariant-loop-wire
invariant-loop-wire l = (l.between.items ≡ node_wires (take l.wire-index l.wires)) × All (λ wire. (wire.0 < l.nodes) × (wire.1 < l.nodes)) l.between.items

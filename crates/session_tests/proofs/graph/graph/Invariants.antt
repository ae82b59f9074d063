use Rattle.std.proofs.Common.{◌<◌, take}
use Rattle.std.specs.Prelude.{All}
use Rattle.session_tests.proofs.graph.graph.Given as goal

abbrev pub invariant-loop-source : goal.invariant-loop-source
invariant-loop-source l = All (λ wire. (wire.0 < l.n) × (wire.1 < l.n)) (take l.source-index l.wires)

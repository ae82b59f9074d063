use Rattle.std.proofs.Common.{◌<◌, get_or, subst}
use Rattle.std.specs.Prelude.{All}
use Rattle.std.proofs.lemmas.List.{take_all}
use Rattle.std.proofs.lemmas.List.Elements.{All-more}
use Rattle.session_tests.proofs.graph.graph.Goals as goal

pub loop-source-preserved : goal.loop-source-preserved
loop-source-preserved c =
    let one : (get_or c.args.wires.now c.loop-source.source-index (0, 0)).0 < c.args.n = c.if-source-n.false in
    let other : (get_or c.args.wires.now c.loop-source.source-index (0, 0)).1 < c.args.n = c.if-node-n.false in
    All-more (λ wire. (wire.0 < c.args.n) × (wire.1 < c.args.n)) c.args.wires.now c.loop-source.source-index (0, 0) c.loop-source-test.true c.loop-source.invariant (one, other)

pub new-requires : goal.new-requires
new-requires c = record { within = subst (λ ws. All (λ wire. (wire.0 < c.args.n) × (wire.1 < c.args.n)) ws) (take_all c.loop-source.source-index c.args.wires.now c.loop-source-test.false) c.loop-source.invariant }

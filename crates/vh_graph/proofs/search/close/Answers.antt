use Rattle.std.proofs.Common.{rules, refl, subst, ◌<◌, length, get_or}
use Rattle.std.proofs.lemmas.List.{take_all}
use Rattle.vh_graph.specs.Steps.{IsClosed}
use Rattle.vh_graph.proofs.Kept.{closed_more}
use Rattle.vh_graph.proofs.search.close.Goals as goal

pub loop-node-preserved : goal.loop-node-preserved
loop-node-preserved c =
    let i = c.loop-node.node-index in
    let within : get_or c.args.nodes.now i 0 < length c.loop-node.places = search rules in
    closed_more c.args.on_cycle c.args.nodes.now i (get_or c.args.nodes.now i 0) 0 c.args.places.now c.loop-node.places c.loop-node-test.true refl within c.loop-node.invariant

pub returns : goal.returns
returns c = subst (λ ns. IsClosed c.args.on_cycle ns c.args.places.now c.loop-node.places) (take_all c.loop-node.node-index c.args.nodes.now c.loop-node-test.false) c.loop-node.invariant

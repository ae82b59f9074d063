use Rattle.std.proofs.Common.{◌≡◌, ◌++◌, take, ap, sym, ◌∙◌, arith}
use Rattle.vh_params.specs.Nodes.{nodes_of}
use Rattle.vh_gesture.specs.Tables.{gates_of, gates_from}
use Rattle.vh_gesture.proofs.Gates.{gates_from-more}
use Rattle.vh_gesture.proofs.gestures.Gestures.new.Goals as goal

pub loop-node-preserved : goal.loop-node-preserved
loop-node-preserved c =
    let node = c.loop-node.node in
    let params = c.params.ensures.value ∙ c.table.ensures.params in
    let before : c.loop-node.gates.items ≡ gates_from 0 (take node (nodes_of c.args.nodes.now)) = c.loop-node.invariant in
    c.in_ok-push_gates.ensures ∙ ap (λ gates. gates ++ gates_of node c.params.result.now) before
    ∙ ap (λ ps. gates_from 0 (take node (nodes_of c.args.nodes.now)) ++ gates_of node ps) params
    ∙ sym (gates_from-more (nodes_of c.args.nodes.now) node (omega arith))

use Rattle.std.proofs.Common.{rules, ◌≤◌, List, length, sym, subst, arith}
use Rattle.std.specs.List.{IsDistinct}
use Rattle.vh_params.specs.Nodes.{nodes_of}
use Rattle.vh_back.specs.declared.item.Parameter.{Parameter}
use Rattle.vh_back.specs.Items.{is_same}
use Rattle.vh_stage.proofs.Params.{all_made, are_apart}
use Rattle.vh_stage.proofs.parameters.parameters.Goals as goal

pub returns-clause-apart : goal.returns-clause-apart
returns-clause-apart c =
    let nodes = nodes_of c.args.nodes.now in
    let past : length nodes ≤ c.loop-node.node = search rules in
    subst (λ (ps : List Parameter). IsDistinct is_same ps) (sym (all_made nodes c.loop-node.made.items c.loop-node.node past c.loop-node.invariant.made))
    (are_apart 0 nodes (λ k d below. c.loop-node.invariant.rising k d (omega (arith, below, past))))

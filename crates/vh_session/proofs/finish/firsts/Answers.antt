use Rattle.std.proofs.Common.{rules, ◌≡◌, ◌∙◌, ◌<◌, ◌++◌, [], ℕ, List, map, length, get_or, sym, ap, arith}
use Rattle.std.specs.List.{filter_map}
use Rattle.std.proofs.lemmas.List.{get_or-map, length-map}
use Rattle.vh_params.specs.Nodes.{nodes_of, node_at}
use Rattle.vh_session.specs.declared.draft.Mark.{Mark}
use Rattle.vh_session.specs.Content.{first_of, firsts_from}
use Rattle.vh_session.proofs.Firsts.{one_node}
use Rattle.vh_session.proofs.finish.firsts.Goals as goal

pub loop-node-preserved : goal.loop-node-preserved
loop-node-preserved c =
    let nodes = nodes_of c.args.nodes.now in
    let marks = c.args.marks.now in
    let f : Mark → List (ℕ × ℕ) = λ mark. mark.firsts.items in
    let firsts = map f marks in
    let i = c.loop-node.node in
    let d = c.index-marks-node.result in
    let before = c.loop-node.firsts.items in
    let after = c.add_firsts.new.firsts.items in
    let long = length-map marks f in
    let lt : i < length nodes = search rules in
    let ml : i < length marks = search rules in
    let fl : i < length firsts = omega (arith, ml, long) in
    let given : get_or firsts i [] ≡ c.deref.result.now = get_or-map f marks i d [] ml ∙ sym c.deref.ensures.value in
    let params : c.params.result.now ≡ (node_at nodes i).params = search rules in
    let added : after ≡ before ++ filter_map (first_of i c.deref.result.now) c.params.result.now = search rules in
    let now : after ≡ before ++ filter_map (first_of i (get_or firsts i [])) (node_at nodes i).params =
    added ∙ ap (λ g. before ++ filter_map (first_of i g) c.params.result.now) (sym given) ∙ ap (λ ps. before ++ filter_map (first_of i (get_or firsts i [])) ps) params in
    one_node nodes firsts i before after (firsts_from 0 nodes firsts) lt fl c.loop-node.invariant now

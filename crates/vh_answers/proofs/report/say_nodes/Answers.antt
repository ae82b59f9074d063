use Rattle.std.proofs.Common.{rules, ◌≡◌, ◌<◌, ◌≤◌, take, drop, length, min, ◌∙◌, ap, subst, sym, arith}
use Rattle.std.specs.Prelude.{All}
use Rattle.std.proofs.lemmas.List.{take_min, drop_min}
use Rattle.std.proofs.lemmas.List.Elements.{All-drop}
use Rattle.vh_params.specs.Nodes.{nodes_of}
use Rattle.vh_params.specs.Tables.{params_of}
use Rattle.vh_answers.proofs.Told.{goes_on, breaks_off}
use Rattle.vh_answers.proofs.Reports.{next_node}
use Rattle.vh_answers.proofs.report.say_nodes.Goals as goal

pub returns-in_err-say_params : goal.returns-in_err-say_params
returns-in_err-say_params g c =
    let nodes = nodes_of c.args.nodes.now in
    let values = c.loop-node.values.now in
    let params = params_of c.table-table.result.now in
    let test = c.loop-node-test.true in
    let count = c.len-node-end.ensures.count in
    let inside : c.loop-node.node < length nodes = omega (arith, test, count) in
    let cut : c.min.result ≡ min (length params) (length values) = c.min.ensures ∙ ap (λ ps. min (length ps) (length values)) c.params.ensures.value in
    let left = next_node nodes values c.args.modes.now c.loop-node.node c.text.result.now params c.split_at.result.0.now c.split_at.result.1.now inside (omega (arith, inside, c.requires.modes))
    (c.text.ensures.value ∙ c.name.ensures.text) c.table-table.ensures.params
    (c.split_at.ensures.front ∙ ap (λ n. take n values) cut ∙ take_min (length params) values)
    (c.split_at.ensures.back ∙ ap (λ n. drop n values) cut ∙ drop_min (length params) values) in
    breaks_off _ _ _ _ _ _ _ c.from_residual.result c.say_params.result _ (search rules) c.in_err-say_params.was c.loop-node.invariant.1 left c.say_params.ensures

pub loop-node-preserved : goal.loop-node-preserved
loop-node-preserved g c =
    let nodes = nodes_of c.args.nodes.now in
    let values = c.loop-node.values.now in
    let params = params_of c.table-table.result.now in
    let test = c.loop-node-test.true in
    let count = c.len-node-end.ensures.count in
    let inside : c.loop-node.node < length nodes = omega (arith, test, count) in
    let cut : c.min.result ≡ min (length params) (length values) = c.min.ensures ∙ ap (λ ps. min (length ps) (length values)) c.params.ensures.value in
    let left = next_node nodes values c.args.modes.now c.loop-node.node c.text.result.now params c.split_at.result.0.now c.split_at.result.1.now inside (omega (arith, inside, c.requires.modes))
    (c.text.ensures.value ∙ c.name.ensures.text) c.table-table.ensures.params
    (c.split_at.ensures.front ∙ ap (λ n. take n values) cut ∙ take_min (length params) values)
    (c.split_at.ensures.back ∙ ap (λ n. drop n values) cut ∙ drop_min (length params) values) in (
      subst (λ vs. All (λ value. value ≤ 16777216) vs) (sym c.split_at.ensures.back) (All-drop (λ value. value ≤ 16777216) c.min.result values c.loop-node.invariant.0),
      goes_on _ _ _ _ _ _ _ c.say_params.result _ c.in_ok-say_params.was c.loop-node.invariant.1 left c.say_params.ensures,
    )

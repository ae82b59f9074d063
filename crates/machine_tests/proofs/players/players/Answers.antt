use Rattle.std.proofs.Common.{◌≡◌, ℕ, ◌+◌, ◌-◌, ◌<◌, List, [], ◌∷◌, ◌++◌, length, take, drop, sym, ap, subst, ◌∙◌, arith}
use Rattle.std.proofs.lemmas.List.{length-append}
use Rattle.std.proofs.lemmas.List.Sums.{sum_by_more}
use Rattle.vh_params.specs.declared.class.ClassInfo.{ClassInfo}
use Rattle.vh_params.specs.declared.param.ParamInfo.{ParamInfo}
use Rattle.vh_params.specs.Nodes.{Node, nodes_of, node_at, no_node}
use Rattle.vh_session.specs.Keeps.{StandsUnder}
use Rattle.vh_session.specs.Names.{content_of}
use Rattle.vh_legal.specs.Values.{param_count}
use Rattle.machine_tests.specs.Ready.{IsReadyAt}
use Rattle.machine_tests.proofs.Making.{firsts_in, AreReadyTo, ready_more, are_ready}
use Rattle.machine_tests.proofs.players.players.Goals as goal

pub loop-node-preserved : goal.loop-node-preserved
loop-node-preserved g c =
    let content = content_of c.args.session.now in
    let nodes = nodes_of c.args.session.now.nodes in
    let first = c.args.first.now in
    let node = c.loop-node.node in
    let from = c.loop-node.from in
    let made = c.loop-node.made.items in
    let now = c.in_ok-player.field-0 in
    let invariant = c.loop-node.invariant in
    let there : node < length nodes = let is = c.loop-node-test.true in let count = c.len-node-end.ensures.count in omega (arith, is, count) in
    let long : length c.params.result.now ≡ length (node_at nodes node).params = ap (λ (params : List ParamInfo). length params) (c.params.ensures.value ∙ c.table.ensures.params) in
    let items : c.push.new.self.items ≡ made ++ now ∷ [] = c.in_ok-push.ensures.items in
    let part : take ((from + length c.params.result.now) - from) (drop from first) ≡ firsts_in nodes first node =
    (let size : (from + length c.params.result.now) - from ≡ length (node_at nodes node).params = omega (arith, long) in ap (λ (k : ℕ). take k (drop from first)) size)
    ∙ ap (λ (k : ℕ). take (length (node_at nodes node).params) (drop k first)) invariant.from in
    let player = subst (λ (given : List ℕ). IsReadyAt g.S.P.Processor.class_of g.S.P.Processor.code g.S.P.Processor.state g.S.P.Processor.values g.S.P.Life.phase g.S.P.Life.last_setup content node given now) part c.in_ok-player.ensures.player in
    let here = subst (λ (k : ℕ). IsReadyAt g.S.P.Processor.class_of g.S.P.Processor.code g.S.P.Processor.state g.S.P.Processor.values g.S.P.Life.phase g.S.P.Life.last_setup content k (firsts_in nodes first k) now) (sym invariant.long) player in
    let more : param_count (take (node + 1) nodes) ≡ param_count (take node nodes) + length (node_at nodes node).params = sum_by_more (λ (n : Node). length n.params) nodes node no_node there in
    record {
      stands = subst (λ (infos : List ClassInfo). StandsUnder infos content) (sym c.in_ok-player.ensures.infos) invariant.stands;
      from = let is = invariant.from in omega (arith, is, long, more);
      long = ap length items ∙ length-append made (now ∷ []) ∙ ap (λ (k : ℕ). k + 1) invariant.long;
      ready = subst (λ (l : List g.row.S-P.Denot). AreReadyTo g.S.P.Processor.class_of g.S.P.Processor.code g.S.P.Processor.state g.S.P.Processor.values g.S.P.Life.phase g.S.P.Life.last_setup content first l) (sym items)
          (ready_more g.S.P.Processor.class_of g.S.P.Processor.code g.S.P.Processor.state g.S.P.Processor.values g.S.P.Life.phase g.S.P.Life.last_setup content first made now invariant.ready here);
    }

pub returns : goal.returns
returns g c =
    let nodes = nodes_of c.args.session.now.nodes in
    let all : length c.loop-node.made.items ≡ length nodes =
    let over = c.loop-node-test.false in let most = c.loop-node.auto.node-end in let count = c.len-node-end.ensures.count in let is = c.loop-node.invariant.long in omega (arith, over, most, count, is) in
    are_ready g.S.P.Processor.class_of g.S.P.Processor.code g.S.P.Processor.state g.S.P.Processor.values g.S.P.Life.phase g.S.P.Life.last_setup (content_of c.args.session.now) c.args.first.now c.loop-node.made.items all c.requires.first c.loop-node.invariant.ready

use Rattle.std.proofs.Common.{◌≡◌, ◌∙◌, ◌<◌, ◌+◌, List, length, Vec, sym, ap, subst, arith}
use Rattle.std.specs.declared.alloc.Global.{Global}
use Rattle.vh_params.specs.declared.param.ParamInfo.{ParamInfo}
use Rattle.vh_params.specs.Nodes.{nodes_of, node_at, no_node}
use Rattle.vh_engine.specs.declared.control.Control.{Control}
use Rattle.vh_engine.proofs.Planned.{AreBoardsOf, begin_more, board_more, board_taken}
use Rattle.vh_engine.proofs.plan.boards_of.Goals as goal

pub loop-node-preserved : goal.loop-node-preserved
loop-node-preserved c =
    let lanes = c.args.session.now.lanes.items in
    let nodes = nodes_of c.args.session.now.nodes in
    let firsts = c.args.firsts.now in
    let node = c.loop-node.node in
    let lt : node < length nodes = omega (arith, c.loop-node-test.true, c.len-node-end.ensures.count) in
    let params : c.params-params.result.now ≡ (node_at nodes node).params = c.params-params.ensures.value ∙ c.table.ensures.params in
    let long = ap (λ (l : List ParamInfo). length l) params in
    let more = begin_more nodes node no_node lt in
    record {
      at = omega (arith, c.loop-node.invariant.at, more, long);
      boards = subst (λ (boards : List (Vec Control Global)). AreBoardsOf lanes nodes firsts boards (node + 1)) (sym {A = List (Vec Control Global)} c.in_ok-push.ensures.items)
          (board_more lanes nodes firsts c.loop-node.boards.items node c.in_ok-board_of.field-0 c.loop-node.invariant.boards
          (board_taken lanes c.deref.result.now nodes firsts node c.loop-node.at c.params-params.result.now c.in_ok-board_of.field-0.items c.deref.ensures.value c.loop-node.invariant.at lt params c.in_ok-board_of.ensures));
    }

pub returns : goal.returns
returns c =
    let boards = c.loop-node.invariant.boards in
    let long = boards.long in
    let count = c.len-node-end.ensures.count in
    record {
      long = omega (arith, long, count, c.loop-node-test.false, c.loop-node.auto.node-end);
      each = λ node d e lt. boards.each node e (omega (arith, lt, long, count, c.loop-node-test.false)) d;
    }

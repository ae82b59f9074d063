use Rattle.std.proofs.Common.{rules, ◌≡◌, ℕ, ◌≤◌, ◌+◌, List, length, sym, subst, arith}
use Rattle.std.proofs.lemmas.List.{length_push}
use Rattle.std.proofs.lemmas.Slice.Zip.{zip_turn, zip_end}
use Rattle.vh_params.specs.declared.param.ParamInfo.{ParamInfo}
use Rattle.vh_engine.specs.declared.control.Control.{Control}
use Rattle.vh_engine.proofs.Planned.{AreFirsts, first_more, board_first}
use Rattle.vh_engine.proofs.plan.board_of.Goals as goal

pub loop-param-preserved : goal.loop-param-preserved
loop-param-preserved c =
    let lanes = c.args.lanes.now in
    let node = c.args.node in
    let params = c.args.params.now in
    let firsts = c.args.firsts.now in
    let n = length c.loop-param.yielded in
    let turn = zip_turn params firsts c.loop-param.yielded c.into_iter-param-iterator.result c.loop-param.param-iterator c.next.new.self c.next.result (search rules) (search rules) c.loop-param.yielded_by (c.in-Some.param, c.in-Some.field-0-1) (search rules) c.next.ensures.steps in
    let few : c.in-Some.param.now.steps ≤ 4095 = subst (λ (p : ParamInfo). p.steps ≤ 4095) (sym (turn.2 c.in-Some.param.now)) (c.requires.steps n c.in-Some.param.now turn.0) in
    subst (λ (m : ℕ). AreFirsts lanes node params firsts c.push.new.self.items m) (sym (length_push c.loop-param.yielded (c.in-Some.param, c.in-Some.field-0-1)))
    (subst (λ (board : List Control). AreFirsts lanes node params firsts board (n + 1)) (sym c.in_ok-push.ensures.items)
    (first_more lanes node params firsts c.loop-param.board.items n _ c.in-Some.param.now c.in-Some.field-0-1.now c.loop-param.invariant turn.2 turn.3 (search (rules, few))))

pub returns : goal.returns
returns c =
    let end = zip_end c.args.params.now c.args.firsts.now c.loop-param.yielded c.into_iter-param-iterator.result c.loop-param.param-iterator c.next.new.self c.next.result (search rules) (search rules) c.loop-param.yielded_by c.in-None.is c.next.ensures.steps in
    board_first c.args.lanes.now c.args.node c.args.params.now c.args.firsts.now c.loop-param.board.items (length c.loop-param.yielded) c.loop-param.invariant (omega (arith, end, c.requires.firsts))

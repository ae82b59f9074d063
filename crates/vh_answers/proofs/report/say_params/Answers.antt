use Rattle.std.proofs.Common.{rules, ◌≡◌, ◌<◌, length, get_or, ◌∙◌, Some, ap, sym, subst, arith}
use Rattle.vh_params.specs.declared.param.ParamInfo.{ParamInfo}
use Rattle.vh_params.specs.Params.{param_in}
use Rattle.vh_params.specs.Tables.{params_of}
use Rattle.vh_answers.proofs.Told.{goes_on, breaks_off, all_said}
use Rattle.vh_answers.proofs.Reports.{found, next_param, last_param}
use Rattle.vh_answers.proofs.report.say_params.Goals as goal

pub say_param-requires-clause-there : goal.say_param-requires-clause-there
say_param-requires-clause-there g c =
    let params = c.params-params.result.now in
    let param = c.index-params-place.result in
    let value = c.params-params.ensures.value in
    let long : length params ≡ length (params_of c.args.table.now) = ap length value in
    let inside : c.loop-place.place < length params = omega (arith, c.loop-place-test.true, c.requires.few, long) in
    let here : param_in params param.id ≡ Some param = subst (λ (p : ParamInfo). param_in params p.id ≡ Some p) (sym c.index-params-place.is) (found params c.loop-place.place param c.params-params.ensures.rising inside) in
    subst (λ ps. param_in ps param.id ≡ Some param) value here

pub returns-in_err-say_param : goal.returns-in_err-say_param
returns-in_err-say_param g c =
    let params = params_of c.args.table.now in
    let param = c.index-params-place.result in
    let inside : c.loop-place.place < length params = omega (arith, c.loop-place-test.true, c.requires.few) in
    let is : param ≡ get_or params c.loop-place.place param = c.index-params-place.is ∙ ap (λ ps. get_or ps c.loop-place.place param) c.params-params.ensures.value in
    breaks_off _ _ _ _ _ _ _ c.from_residual.result c.say_param.result _ (search rules) c.in_err-say_param.was c.loop-place.invariant
    (next_param c.args.name.now c.args.mode params c.args.values.now c.loop-place.place param inside is c.loop-place-test.true) c.say_param.ensures

pub loop-place-preserved : goal.loop-place-preserved
loop-place-preserved g c =
    let params = params_of c.args.table.now in
    let param = c.index-params-place.result in
    let inside : c.loop-place.place < length params = omega (arith, c.loop-place-test.true, c.requires.few) in
    let is : param ≡ get_or params c.loop-place.place param = c.index-params-place.is ∙ ap (λ ps. get_or ps c.loop-place.place param) c.params-params.ensures.value in
    goes_on _ _ _ _ _ _ _ c.say_param.result _ c.in_ok-say_param.was c.loop-place.invariant
    (next_param c.args.name.now c.args.mode params c.args.values.now c.loop-place.place param inside is c.loop-place-test.true) c.say_param.ensures

pub returns : goal.returns
returns g c = all_said _ _ _ _ _ c.loop-place.invariant (last_param c.args.name.now c.args.mode _ c.args.values.now c.loop-place.place c.loop-place-test.false)

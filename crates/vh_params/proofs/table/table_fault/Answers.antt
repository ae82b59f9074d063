use Rattle.std.proofs.Common.{take, ap, sym, ◌∙◌}
use Rattle.vh_params.specs.declared.param.ParamInfo.{ParamInfo}
use Rattle.vh_params.specs.Params.{first_fault, param_rules}
use Rattle.vh_params.proofs.Tables.{goes_on, stops}
use Rattle.vh_params.proofs.table.table_fault.Goals as goal

pub loop-i-preserved : goal.loop-i-preserved
loop-i-preserved c =
    let here = ap (λ (p : ParamInfo). first_fault (param_rules c.args.units.now (take c.loop-i.i c.args.params.now) p)) c.index-params-i.is in
    goes_on c.args.units.now c.args.params.now c.loop-i.i c.index-params-i.result c.loop-i-test.true c.fault_of-fault.result (c.fault_of-fault.ensures ∙ here) c.loop-i.invariant (sym c.is_some.ensures ∙ c.if-is_some.false)

pub returns-then-is_some : goal.returns-then-is_some
returns-then-is_some c =
    let here = ap (λ (p : ParamInfo). first_fault (param_rules c.args.units.now (take c.loop-i.i c.args.params.now) p)) c.index-params-i.is in
    stops c.args.units.now c.args.params.now c.loop-i.i c.index-params-i.result c.loop-i-test.true c.fault_of-fault.result (c.fault_of-fault.ensures ∙ here) c.loop-i.invariant (sym c.is_some.ensures ∙ c.if-is_some.true)

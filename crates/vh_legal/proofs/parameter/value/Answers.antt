use Rattle.std.proofs.Common.{◌≡◌, ◌∙◌, Option, Some, sym, ap}
use Rattle.std.specs.Option.{option_copied}
use Rattle.vh_params.specs.declared.param.ParamInfo.{ParamInfo}
use Rattle.vh_params.specs.Nodes.{nodes_of, info_in}
use Rattle.vh_session.specs.Names.{content_of}
use Rattle.vh_legal.specs.Touches.{touch_of}
use Rattle.vh_legal.specs.Values.{line_in}
use Rattle.vh_legal.proofs.Valued.{is_value}
use Rattle.vh_legal.proofs.parameter.value.Goals as goal

pub returns-clause-value : goal.returns-clause-value
returns-clause-value c =
    let session = c.args.session.now in
    let info = c.unwrap-param.result.now in
    let is : Some info ≡ info_in (nodes_of session.nodes) c.args.node c.args.id = sym (ap option_copied c.unwrap-param.ensures) ∙ c.info.ensures.value in
    is_value (content_of session) c.args.firsts.now c.args.entries.now c.args.node c.args.id c.args.sample info (line_in (option_copied c.lane_of-lane.result)) (touch_of c.touch_at.result) c.first_value-first.result c.value_at.result
    is c.lane_of-lane.ensures c.first_value-first.ensures.value c.touch_at.ensures.touch c.value_at.ensures.value

use Rattle.std.proofs.Common.{rules, ◌≡◌, Some}
use Rattle.vh_params.specs.Nodes.{nodes_of, info_in}
use Rattle.vh_session.proofs.Params.{there}
use Rattle.vh_session.proofs.rules.settable_param.Goals as goal

pub returns-clause-there : goal.returns-clause-there
returns-clause-there c =
    let found : info_in (nodes_of c.args.nodes.now) c.args.node c.in_ok-id.id ≡ Some c.in-Some.field-0.now = search rules in
    there (nodes_of c.args.nodes.now) c.args.node c.in_ok-id.id c.in-Some.field-0.now found

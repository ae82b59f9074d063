use Rattle.std.proofs.Common.{◌≡◌, ◌∙◌, ap, sym, Some, ◌+◌, arith}
use Rattle.std.specs.Option.{ok_or}
use Rattle.vh_params.specs.Nodes.{nodes_of}
use Rattle.vh_session.specs.declared.fault.SessionKind.TheVariants.{UnknownNode}
use Rattle.vh_session.specs.Rules.{node_named}
use Rattle.vh_session.proofs.Named.{first_from, none_from}
use Rattle.vh_session.proofs.rules.the_node.Goals as goal

pub returns-in-Some-clause-value : goal.returns-in-Some-clause-value
returns-in-Some-clause-value c =
    let found : node_named (nodes_of c.args.nodes.now) c.args.name.now ≡ Some c.in-Some.node =
    first_from (nodes_of c.args.nodes.now) c.args.name.now 0 c.in-Some.node c.in-Some.ensures.some.0 c.in-Some.ensures.some.1 c.in-Some.ensures.first
    ∙ (let e : 0 + c.in-Some.node ≡ c.in-Some.node = omega arith in ap (λ m. Some m) e) in
    sym (ap (λ o. ok_or o UnknownNode) found)

pub returns-in-None-clause-value : goal.returns-in-None-clause-value
returns-in-None-clause-value c = sym (ap (λ o. ok_or o UnknownNode) (none_from (nodes_of c.args.nodes.now) c.args.name.now 0 c.in-None.ensures.none))

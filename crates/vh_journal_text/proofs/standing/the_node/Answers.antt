use Rattle.std.proofs.Common.{ap, sym}
use Rattle.std.specs.Option.{ok_or}
use Rattle.vh_params.specs.Nodes.{nodes_of}
use Rattle.vh_journal_text.specs.declared.fault.JournalKind.TheVariants.{UnknownNode}
use Rattle.vh_journal_text.proofs.Named.{first_node, no_node_named}
use Rattle.vh_journal_text.proofs.standing.the_node.Goals as goal

pub returns-in-Some-clause-value : goal.returns-in-Some-clause-value
returns-in-Some-clause-value c =
    sym (ap (λ o. ok_or o UnknownNode) (first_node (nodes_of c.args.nodes.now) c.args.name.now c.in-Some.node c.in-Some.ensures.some.0 c.in-Some.ensures.some.1 c.in-Some.ensures.first))

pub returns-in-None-clause-value : goal.returns-in-None-clause-value
returns-in-None-clause-value c = sym (ap (λ o. ok_or o UnknownNode) (no_node_named (nodes_of c.args.nodes.now) c.args.name.now c.in-None.ensures.none))

use Rattle.vh_params.proofs.NodeLists.{nodes_apart}
use Rattle.vh_params.proofs.node.NodeTable.len.Goals as goal

pub returns-clause-apart : goal.returns-clause-apart
returns-clause-apart c = nodes_apart c.args.self.now.nodes.entries c.len.ensures.unique

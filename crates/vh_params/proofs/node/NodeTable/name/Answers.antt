use Rattle.std.proofs.Common.{◌<◌, length, arith}
use Rattle.std.proofs.lemmas.List.{length-map}
use Rattle.vh_params.specs.Nodes.{stored_node}
use Rattle.vh_params.proofs.NodeLists.{is_name_there}
use Rattle.vh_params.proofs.node.NodeTable.name.Goals as goal

pub returns-clause-is_name : goal.returns-clause-is_name
returns-clause-is_name c =
    let within : c.args.node < length c.args.self.now.nodes.entries = omega (arith, c.requires, length-map c.args.self.now.nodes.entries stored_node) in
    is_name_there c.args.self.now.nodes.entries c.args.node c.entry.result.0.now c.entry.result.1.now within c.entry.ensures.entry c.args.self.now.names

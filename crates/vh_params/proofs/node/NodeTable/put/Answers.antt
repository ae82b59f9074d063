use Rattle.std.proofs.Common.{◌<◌, length, arith}
use Rattle.std.proofs.lemmas.List.{length-map}
use Rattle.vh_params.specs.Nodes.{stored_node}
use Rattle.vh_params.proofs.NodeLists.{stays_within, keeps_names, stored_more}
use Rattle.vh_params.proofs.node.NodeTable.put.Goals as goal

pub invariant_of-self-clause-most : goal.invariant_of-self-clause-most
invariant_of-self-clause-most c =
    let room : length c.args.self.now.nodes.entries < 64 = omega (arith, c.requires.room, length-map c.args.self.now.nodes.entries stored_node) in
    stays_within c.insert.result c.args.self.now.nodes.entries c.insert.new.self.entries c.args.name _ c.requires.new c.insert.ensures.entries c.insert.ensures.err room

pub invariant_of-self-clause-names : goal.invariant_of-self-clause-names
invariant_of-self-clause-names c = keeps_names c.insert.result c.args.self.now.nodes.entries c.insert.new.self.entries c.args.name _ c.requires.new c.insert.ensures.entries c.insert.ensures.err c.requires.name c.args.self.now.names

pub returns-in-Ok-clause-added : goal.returns-in-Ok-clause-added
returns-in-Ok-clause-added c = stored_more c.args.self.now.nodes.entries c.insert.new.self.entries c.args.name _ c.requires.new c.in-Ok.ensures.entries

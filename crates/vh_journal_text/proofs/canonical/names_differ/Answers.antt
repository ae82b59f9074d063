use Rattle.std.proofs.Common.{◌≡◌, true}
use Rattle.std.proofs.lemmas.List.Elements.{All-map}
use Rattle.vh_params.specs.Names.{is_name}
use Rattle.vh_params.specs.Nodes.{Node, stored_node}
use Rattle.vh_journal_text.proofs.canonical.names_differ.Goals as goal

pub returns : goal.returns
returns c = record {
  names = All-map (λ (node : Node). is_name node.name ≡ true) stored_node c.args.nodes.now.nodes.entries c.args.nodes.now.names;
  apart = c.len.ensures.apart;
}

use Rattle.vh_plugin.proofs.Copies.{names_differ}
use Rattle.vh_plugin.proofs.both.Both.new.Goals as goal

pub new-requires-clause-names : goal.new-requires-clause-names
new-requires-clause-names g c =
    names_differ _ _ _ _ _ _ _ c.new-list.ensures.items c.classes.ensures c.classes-2.ensures c.in_ok-copy_into.ensures c.in_ok-copy_into-2.ensures c.classes.result.now.names c.classes-2.result.now.names c.requires.names

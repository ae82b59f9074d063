-- Legal journals are on parameters that can be set.
use Rattle.std.proofs.Common.{List, []}
use Rattle.vh_params.specs.Nodes.{Node, nodes_of}
use Rattle.vh_params.specs.declared.command.Command.{Command}
use Rattle.vh_params.specs.declared.command.Command.TheVariants.{Begin, Perform, End, Tell}
use Rattle.vh_journal.specs.declared.entry.Entry.{Entry}
use Rattle.vh_session.proofs.Behind.{behind_all}
use Rattle.vh_legal.specs.Journals.{IsOnParam, MayStandBehind}
use Rattle.vh_legal.proofs.Keeping.{law_legal_is_journal}
use Rattle.vh_stage.specs.Carried.{IsOn}
use Rattle.vh_editors.specs.Laws.{LegalIsOn}

on_param : (nodes : List Node) (command : Command) → IsOnParam nodes command → IsOn nodes command
on_param nodes (Begin node id) is = is
on_param nodes (Perform node id value) is = is
on_param nodes (End node id) is = is
on_param nodes (Tell node words) is = is

pub law_legal_is_on : LegalIsOn
law_legal_is_on session entries legal =
    let nodes = nodes_of session.nodes in
    behind_all (MayStandBehind nodes session.length) (λ (entry : Entry). IsOn nodes entry.command) [] entries (λ before entry stands. on_param nodes entry.command stands.param) (law_legal_is_journal session entries legal)

use Rattle.std.proofs.Common.{◌≡◌, Some, IfErr, sym, subst}
use Rattle.vh_params.specs.Nodes.{nodes_of}
use Rattle.vh_params.specs.declared.command.Word.{Word}
use Rattle.vh_params.specs.declared.command.Word.TheVariants.{Edit}
use Rattle.vh_gesture.specs.Rules.{rules as rules_of}
use Rattle.vh_gesture.specs.Tables.{counts_in, fault_at}
use Rattle.vh_gesture.proofs.Judged.{refused}
use Rattle.vh_gesture.proofs.gestures.Gestures.check.Goals as goal

pub returns-in-Edit-clause-refused : goal.returns-in-Edit-clause-refused
returns-in-Edit-clause-refused c =
    let nodes = nodes_of c.args.nodes.now in
    subst (λ (word : Word). IfErr c.check_edit.result (λ fault. fault_at nodes c.args.self.now word ≡ Some fault)) (sym c.in-Edit.is)
    (refused (rules_of nodes (counts_in c.args.self.now) (Edit c.in-Edit.command)) c.check_edit.result c.check_edit.ensures)

use Rattle.std.proofs.Common.{◌≡◌, ◌∙◌, sym}
use Rattle.vh_params.specs.contracts.command.CommandPartialEq.TheImpl.{eq-value}
use Rattle.vh_legal.proofs.Commands.{command_decides}
use Rattle.vh_legal.proofs.script.are_same.Goals as goal

pub returns : goal.returns
returns c =
    let is : c.eq.result ≡ eq-value.it c.args.one.now c.args.other.now = c.eq.ensures in
    let decides = command_decides c.args.one.now c.args.other.now in
    (λ yes. decides.0 (sym is ∙ yes), λ same. is ∙ decides.1 same)

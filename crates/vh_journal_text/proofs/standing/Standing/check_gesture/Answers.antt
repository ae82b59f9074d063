use Rattle.std.proofs.Common.{◌∙◌, ap, sym}
use Rattle.vh_journal_text.specs.Rules.{in_gesture}
use Rattle.vh_journal_text.specs.View.{act_told, so_far}
use Rattle.vh_journal_text.proofs.standing.Standing.check_gesture.Goals as goal

pub returns-in-Perform : goal.returns-in-Perform
returns-in-Perform c = c.check_within.ensures ∙ ap (λ a. in_gesture (so_far c.args.self.now) c.args.editor c.args.node (act_told a)) (sym c.in-Perform.is)

use Rattle.std.proofs.Common.{◌∙◌, sym, subst}
use Rattle.vh_journal_text.specs.Items.{act_of}
use Rattle.vh_journal_text.specs.Steps.{KeepsTurns}
use Rattle.vh_journal_text.specs.View.{act_told, so_far}
use Rattle.vh_journal_text.proofs.Accepted.{turns_kept}
use Rattle.vh_journal_text.proofs.standing.Standing.judge.Goals as goal

pub returns-clause-turns : goal.returns-clause-turns
returns-clause-turns c =
    let before = so_far c.args.self.now in
    let line = c.args.line.now in
    let node = c.in_ok-node.node in
    let turns = turns_kept before line.editor node (act_told line.act) tt (sym c.check_gesture.ensures ∙ c.in_ok-check_gesture.was) in
    subst (λ n. KeepsTurns before line.editor n (act_of c.at.result)) (sym c.at.ensures.node) (subst (λ a. KeepsTurns before line.editor node a) (sym c.at.ensures.act) turns)

use Rattle.std.proofs.Common.{rules}
use Rattle.vh_answers.proofs.Told.{goes_on, breaks_off}
use Rattle.vh_answers.proofs.Reports.{next_editor}
use Rattle.vh_answers.proofs.report.say_editors.Goals as goal

pub returns-in_err-say_editor : goal.returns-in_err-say_editor
returns-in_err-say_editor g c =
    breaks_off _ _ _ _ _ _ _ c.from_residual.result c.say_editor.result _ (search rules) c.in_err-say_editor.was c.loop-number.invariant
    (next_editor c.args.editors.now c.loop-number.number (record { accepted = 0; refused = 0 }) c.loop-number-test.true) c.say_editor.ensures

pub loop-number-preserved : goal.loop-number-preserved
loop-number-preserved g c =
    goes_on _ _ _ _ _ _ _ c.say_editor.result _ c.in_ok-say_editor.was c.loop-number.invariant
    (next_editor c.args.editors.now c.loop-number.number (record { accepted = 0; refused = 0 }) c.loop-number-test.true) c.say_editor.ensures

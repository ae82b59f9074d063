use Rattle.std.proofs.Common.{drop}
use Rattle.vh_answers.specs.Outside.{voice}
use Rattle.vh_answers.specs.Report.{editors_text}
use Rattle.vh_answers.proofs.Told.{IsOnTheWay}
use Rattle.vh_answers.proofs.report.say_editors.Given as goal

abbrev pub invariant-loop-number : goal.invariant-loop-number
invariant-loop-number g l = IsOnTheWay (voice g.Y.Say l.fn.say) (voice g.Y.Say l.say) (editors_text 0 l.editors) (editors_text l.number (drop l.number l.editors))

use Rattle.std.proofs.Common.{drop}
use Rattle.vh_params.specs.Tables.{params_of}
use Rattle.vh_answers.specs.Outside.{voice}
use Rattle.vh_answers.specs.Report.{params_text}
use Rattle.vh_answers.proofs.Told.{IsOnTheWay}
use Rattle.vh_answers.proofs.report.say_params.Given as goal

abbrev pub invariant-loop-place : goal.invariant-loop-place
invariant-loop-place g l =
    IsOnTheWay (voice g.Y.Say l.fn.say) (voice g.Y.Say l.say) (params_text l.name l.mode (params_of l.table) l.values) (params_text l.name l.mode (drop l.place (params_of l.table)) (drop l.place l.values))

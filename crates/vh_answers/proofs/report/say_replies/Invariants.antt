use Rattle.std.proofs.Common.{map, drop}
use Rattle.vh_params.specs.Nodes.{nodes_of}
use Rattle.vh_answers.specs.Outside.{voice}
use Rattle.vh_answers.specs.Report.{replies_text, answer_of}
use Rattle.vh_answers.proofs.Told.{IsOnTheWay}
use Rattle.vh_answers.proofs.report.say_replies.Given as goal

abbrev pub invariant-loop-reply : goal.invariant-loop-reply
invariant-loop-reply g l = IsOnTheWay (voice g.Y.Say l.fn.say) (voice g.Y.Say l.say) (replies_text (nodes_of l.nodes) (map answer_of l.replies)) (replies_text (nodes_of l.nodes) (map answer_of (drop l.reply-index l.replies)))

use Rattle.std.proofs.Common.{rules, map, ap}
use Rattle.vh_params.specs.Nodes.{nodes_of}
use Rattle.vh_answers.specs.Report.{replies_text, answer_of}
use Rattle.vh_answers.proofs.Told.{goes_on, breaks_off, next_item}
use Rattle.vh_answers.proofs.report.say_replies.Goals as goal

pub returns-in_err-say_reply : goal.returns-in_err-say_reply
returns-in_err-say_reply g c =
    let nodes = nodes_of c.args.nodes.now in
    let left = ap (λ rs. replies_text nodes (map answer_of rs)) (next_item c.args.replies.now c.loop-reply.reply-index c.reply-item.result c.loop-reply-test.true c.reply-item.is) in
    breaks_off _ _ _ _ _ _ _ c.from_residual.result c.say_reply.result _ (search rules) c.in_err-say_reply.was c.loop-reply.invariant left c.say_reply.ensures

pub loop-reply-preserved : goal.loop-reply-preserved
loop-reply-preserved g c =
    let nodes = nodes_of c.args.nodes.now in
    let left = ap (λ rs. replies_text nodes (map answer_of rs)) (next_item c.args.replies.now c.loop-reply.reply-index c.reply-item.result c.loop-reply-test.true c.reply-item.is) in
    goes_on _ _ _ _ _ _ _ c.say_reply.result _ c.in_ok-say_reply.was c.loop-reply.invariant left c.say_reply.ensures

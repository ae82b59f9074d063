use Rattle.std.proofs.Common.{rules, ◌++◌, map, refl}
use Rattle.vh_session.specs.Names.{content_of}
use Rattle.vh_answers.specs.Report.{nodes_text, replies_text, editors_text, close_text, report_text, answer_of}
use Rattle.vh_answers.proofs.Told.{not_begun, goes_on, breaks_off, ends_with}
use Rattle.vh_answers.proofs.report.Report.say.Goals as goal

pub returns-in_err-say_head : goal.returns-in_err-say_head
unfolding report_text
returns-in_err-say_head g c =
    breaks_off _ _ _ _ _ _ _ c.from_residual.result c.say_head.result _ (search rules) c.in_err-say_head.was (not_begun _ _ _ refl) refl c.say_head.ensures

pub returns-in_err-say_nodes : goal.returns-in_err-say_nodes
unfolding report_text
returns-in_err-say_nodes g c =
    let report = c.args.self.now in
    let content = content_of c.args.session.now in
    let answers = map answer_of report.replies.now in
    let whole = report_text content report.values.now report.modes.now report.pieces answers report.editors.now in
    let editors = editors_text 0 report.editors.now ++ close_text in
    let replies = replies_text content.nodes answers ++ editors in
    let nodes = nodes_text content.nodes report.values.now report.modes.now ++ replies in
    let head_said = goes_on _ _ _ whole whole _ nodes c.say_head.result _ c.in_ok-say_head.was (not_begun _ _ _ refl) refl c.say_head.ensures in
    breaks_off _ _ _ _ _ _ replies c.from_residual-in_err-say_nodes.result c.say_nodes.result _ (search rules) c.in_err-say_nodes.was head_said refl c.say_nodes.ensures

pub returns-in_err-say_replies : goal.returns-in_err-say_replies
unfolding report_text
returns-in_err-say_replies g c =
    let report = c.args.self.now in
    let content = content_of c.args.session.now in
    let answers = map answer_of report.replies.now in
    let whole = report_text content report.values.now report.modes.now report.pieces answers report.editors.now in
    let editors = editors_text 0 report.editors.now ++ close_text in
    let replies = replies_text content.nodes answers ++ editors in
    let nodes = nodes_text content.nodes report.values.now report.modes.now ++ replies in
    let head_said = goes_on _ _ _ whole whole _ nodes c.say_head.result _ c.in_ok-say_head.was (not_begun _ _ _ refl) refl c.say_head.ensures in
    let nodes_said = goes_on _ _ _ _ nodes _ replies c.say_nodes.result _ c.in_ok-say_nodes.was head_said refl c.say_nodes.ensures in
    breaks_off _ _ _ _ _ _ editors c.from_residual-in_err-say_replies.result c.say_replies.result _ (search rules) c.in_err-say_replies.was nodes_said refl c.say_replies.ensures

pub returns-in_err-say_editors : goal.returns-in_err-say_editors
unfolding report_text
returns-in_err-say_editors g c =
    let report = c.args.self.now in
    let content = content_of c.args.session.now in
    let answers = map answer_of report.replies.now in
    let whole = report_text content report.values.now report.modes.now report.pieces answers report.editors.now in
    let editors = editors_text 0 report.editors.now ++ close_text in
    let replies = replies_text content.nodes answers ++ editors in
    let nodes = nodes_text content.nodes report.values.now report.modes.now ++ replies in
    let head_said = goes_on _ _ _ whole whole _ nodes c.say_head.result _ c.in_ok-say_head.was (not_begun _ _ _ refl) refl c.say_head.ensures in
    let nodes_said = goes_on _ _ _ _ nodes _ replies c.say_nodes.result _ c.in_ok-say_nodes.was head_said refl c.say_nodes.ensures in
    let replies_said = goes_on _ _ _ _ replies _ editors c.say_replies.result _ c.in_ok-say_replies.was nodes_said refl c.say_replies.ensures in
    breaks_off _ _ _ _ _ _ close_text c.from_residual-in_err-say_editors.result c.say_editors.result _ (search rules) c.in_err-say_editors.was replies_said refl c.say_editors.ensures

pub returns : goal.returns
unfolding report_text
returns g c =
    let report = c.args.self.now in
    let content = content_of c.args.session.now in
    let answers = map answer_of report.replies.now in
    let whole = report_text content report.values.now report.modes.now report.pieces answers report.editors.now in
    let editors = editors_text 0 report.editors.now ++ close_text in
    let replies = replies_text content.nodes answers ++ editors in
    let nodes = nodes_text content.nodes report.values.now report.modes.now ++ replies in
    let head_said = goes_on _ _ _ whole whole _ nodes c.say_head.result _ c.in_ok-say_head.was (not_begun _ _ _ refl) refl c.say_head.ensures in
    let nodes_said = goes_on _ _ _ _ nodes _ replies c.say_nodes.result _ c.in_ok-say_nodes.was head_said refl c.say_nodes.ensures in
    let replies_said = goes_on _ _ _ _ replies _ editors c.say_replies.result _ c.in_ok-say_replies.was nodes_said refl c.say_replies.ensures in
    let editors_said = goes_on _ _ _ _ editors _ close_text c.say_editors.result _ c.in_ok-say_editors.was replies_said refl c.say_editors.ensures in
    ends_with _ _ _ _ close_text c.say_close.result editors_said c.say_close.ensures

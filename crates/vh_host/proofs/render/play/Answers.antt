use Rattle.std.proofs.Common.{◌∙◌, refl, sym, ap, subst, [], ◌<◌, All, length, map}
use Rattle.vh_params.specs.Nodes.{nodes_of}
use Rattle.vh_session.specs.Content.{Content}
use Rattle.vh_session.specs.Names.{content_of}
use Rattle.vh_meaning.specs.Rendering.{Answer, answers}
use Rattle.vh_engine.specs.Kept.{scene_in}
use Rattle.vh_render.specs.Playing.{file_text, piece_count}
use Rattle.vh_answers.specs.Report.{report_text, answer_of}
use Rattle.vh_host.proofs.Playing.{plays, same_text, same_pieces, cut_short, unsaid, done, same_report, calls_are}
use Rattle.vh_host.proofs.Replies.{answers_there, replies_there}
use Rattle.vh_host.proofs.render.play.Goals as goal

-- src/render.rt:101:9
pub returns-in_default-clause-ends : goal.returns-in_default-clause-ends
returns-in_default-clause-ends g c = λ asked heard is.
    let kept = c.args.engine.now in
    let score = c.args.score.now in
    let modes = c.args.supplies.now.modes.items in
    let scene = scene_in g.P.Processor.class_of kept in
    let playing = plays g.P.Processor.class_of kept asked heard c.args.output.now score is c.requires.stands in
    cut_short _ _ scene modes asked kept.session heard score.entries.now c.args.output.now (file_text scene heard.frames score)
    is.output_is
    (same_text g.P.Processor.class_of kept asked heard c.args.output.now score is)
    (c.in_default.ensures.part heard.frames playing)
    c.in_default.ensures.rose refl

-- src/render.rt:114:11
pub say-requires-clause-replies : goal.say-requires-clause-replies
say-requires-clause-replies g c =
    let kept = c.args.engine.now in
    let score = c.args.score.now in
    let heard = c.requires.scored.1 in
    let scene = scene_in g.P.Processor.class_of kept in
    let given = answers scene heard.frames score.entries.now in
    let playing = plays g.P.Processor.class_of kept c.requires.scored.0 heard c.args.output.now score c.requires.scored.2 c.requires.stands in
    let nodes = c.requires.nodes ∙ sym (ap (λ (content : Content). length content.nodes) (c.session.ensures ∙ c.in-Ok.ensures.same.session)) in
    replies_there (length (nodes_of c.session.result.now.nodes)) c.replies.result.now given
    (c.replies.ensures ∙ c.in-Ok.ensures.answers heard.frames playing)
    (subst (λ n. All (λ (a : Answer). a.node < n) given) nodes (answers_there scene heard.frames score.entries.now c.requires.playable.entries.commands))

-- src/render.rt:83:1
pub returns-in-Ok-say-clause-ends : goal.returns-in-Ok-say-clause-ends
returns-in-Ok-say-clause-ends g c = λ asked heard is.
    let kept = c.args.engine.now in
    let score = c.args.score.now in
    let modes = c.args.supplies.now.modes.items in
    let scene = scene_in g.P.Processor.class_of kept in
    let content = content_of c.session.result.now in
    let given = map answer_of c.replies.result.now in
    let playing = plays g.P.Processor.class_of kept asked heard c.args.output.now score is c.requires.stands in
    let pieces = same_pieces kept asked heard c.args.output.now score is c.requires.playable.score_of in
    done _ _ scene modes asked kept.session heard score.entries.now c.args.output.now (file_text scene heard.frames score)
    (report_text content c.values.result.now c.deref.result.now c.in-Ok.pieces given [])
    is.output_is
    (same_text g.P.Processor.class_of kept asked heard c.args.output.now score is)
    (c.in-Ok.ensures.file heard.frames playing)
    (same_report scene asked kept.session content heard score.entries.now c.values.result.now c.deref.result.now modes c.in-Ok.pieces given
    (c.session.ensures ∙ c.in-Ok.ensures.same.session)
    (c.values.ensures.values ∙ c.in-Ok.ensures.values heard.frames playing)
    c.deref.ensures.value
    (c.in-Ok.ensures.pieces ∙ pieces)
    (c.replies.ensures ∙ c.in-Ok.ensures.answers heard.frames playing))
    c.in-Ok-say.ensures.whole
    (calls_are asked kept.session score.entries.now (piece_count score) (length kept.session.nodes) kept.calls c.render.new.engine.calls
    refl c.requires.calls c.in-Ok.ensures.calls pieces c.requires.short)

-- src/render.rt:83:1
pub returns-in-Err-clause-ends : goal.returns-in-Err-clause-ends
returns-in-Err-clause-ends g c = λ asked heard is.
    let kept = c.args.engine.now in
    let score = c.args.score.now in
    let modes = c.args.supplies.now.modes.items in
    let scene = scene_in g.P.Processor.class_of kept in
    let content = content_of c.session.result.now in
    let given = map answer_of c.replies.result.now in
    let playing = plays g.P.Processor.class_of kept asked heard c.args.output.now score is c.requires.stands in
    let pieces = same_pieces kept asked heard c.args.output.now score is c.requires.playable.score_of in
    unsaid _ _ scene modes asked kept.session heard score.entries.now c.args.output.now (file_text scene heard.frames score)
    (report_text content c.values.result.now c.deref.result.now c.in-Ok.pieces given [])
    is.output_is
    (same_text g.P.Processor.class_of kept asked heard c.args.output.now score is)
    (c.in-Ok.ensures.file heard.frames playing)
    (same_report scene asked kept.session content heard score.entries.now c.values.result.now c.deref.result.now modes c.in-Ok.pieces given
    (c.session.ensures ∙ c.in-Ok.ensures.same.session)
    (c.values.ensures.values ∙ c.in-Ok.ensures.values heard.frames playing)
    c.deref.ensures.value
    (c.in-Ok.ensures.pieces ∙ pieces)
    (c.replies.ensures ∙ c.in-Ok.ensures.answers heard.frames playing))
    c.in-Err.ensures.part
    c.in-Err.ensures.cause.failed

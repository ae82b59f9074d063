use Rattle.std.proofs.Common.{rules, ◌≡◌, sym, subst, Ok}
use Rattle.vh_params.specs.ClassList.{classes_of}
use Rattle.vh_session.specs.Content.{content_in}
use Rattle.vh_session.specs.Keeps.{StandsUnder}
use Rattle.vh_session.specs.Names.{content_of}
use Rattle.vh_session.specs.Reading.{draft_of}
use Rattle.vh_session.specs.View.{draft_in}
use Rattle.vh_session.proofs.DraftsKeep.{draft_keeps, session_keeps, session_stands}
use Rattle.vh_session.proofs.reader.read.Goals as goal

pub finish-requires-clause-keeps : goal.finish-requires-clause-keeps
finish-requires-clause-keeps c =
    let draft = draft_in c.in_ok-draft.draft in
    let known = classes_of c.args.classes.now in
    let is : draft_of known c.args.bytes.now ≡ Ok draft = search rules in
    let kept = draft_keeps known c.args.bytes.now draft is in
    session_keeps known draft kept.0 kept.1 c.in_ok-check_cycles.ensures.free

pub returns : goal.returns
returns c =
    let draft = draft_in c.in_ok-draft.draft in
    let known = classes_of c.args.classes.now in
    let is : draft_of known c.args.bytes.now ≡ Ok draft = search rules in
    let kept = draft_keeps known c.args.bytes.now draft is in
    let same : content_of c.in_ok-finish.field-0 ≡ content_in draft = search rules in
    ((draft, is, c.in_ok-check_cycles.ensures.free, sym same), subst (λ content. StandsUnder known content) (sym same) (session_stands known draft kept.0))

use Rattle.std.proofs.Common.{◌≡◌, ◌∙◌, List, length, sym, ap, subst}
use Rattle.std.specs.List.{concat}
use Rattle.vh_counted.specs.declared.object.Opened.{Opened}
use Rattle.vh_back.specs.Items.{last_value}
use Rattle.vh_back.specs.Ends.{offered}
use Rattle.vh_back.specs.Follows.{of_openers, AreFollowed}
use Rattle.vh_hands.proofs.Values.{written, values_follow}
use Rattle.vh_hands.proofs.hands.Hands.settle.Goals as goal

pub returns-clause-values : goal.returns-clause-values
returns-clause-values g c = λ nodes firsts have following.
    let class_of = g.C.Controller.class_of in
    let code = g.C.Controller.code in
    let values = g.C.Controller.values in
    let old = c.args.self.edits.items in
    let now = c.deref_mut.result.now in
    let new = c.settle.new.edits in
    let is : now ≡ old = c.deref_mut.ensures.value in
    let same : length new ≡ length old = c.settle.auto.edits ∙ ap length is in
    let last = last_value (offered c.args.sender) in
    let follows = c.settle.ensures.follow firsts (subst (λ (edits : List (Opened g.row.C.Denot)). AreFollowed class_of (last_value c.args.self.follower.received) (of_openers code edits) firsts (of_openers values edits)) (sym is) following.followed) in
    ap (λ (edits : List (Opened g.row.C.Denot)). concat (of_openers values edits)) (written c.args.self.edits.len new old (same ∙ sym c.args.self.edits.ok.0))
    ∙ values_follow class_of code values last nodes firsts old new have following.size following.sizes
    (subst (λ (edits : List (Opened g.row.C.Denot)). AreFollowed class_of last (of_openers code edits) firsts (of_openers values new)) is follows) same

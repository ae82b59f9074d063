use Rattle.std.proofs.Common.{rules, refl, ◌≡◌, ◌∙◌, ◌≤◌, ℕ, List, [], ◌++◌, length, map, drop, vec_capacity, sym, ap, subst, arith}
use Rattle.std.proofs.lemmas.List.{length-append}
use Rattle.std.proofs.lemmas.List.Elements.{All-drop}
use Rattle.vh_params.specs.declared.command.Reply.{Reply}
use Rattle.vh_journal.specs.declared.entry.Entry.{Entry}
use Rattle.vh_meaning.proofs.Answering.{law_each_is_answered}
use Rattle.vh_engine.specs.Staged.{answer_of}
use Rattle.vh_back.specs.Items.{replies}
use Rattle.vh_back.specs.Ends.{offered}
use Rattle.vh_stage.specs.Carried.{IsOn, AreOn}
use Rattle.vh_stage.specs.Playing.{AreAt}
use Rattle.vh_stage.specs.Staged.{sender_in, taken_in, waiting_in}
use Rattle.vh_stage.proofs.Carrying.{may_carry}
use Rattle.vh_stage.proofs.Ends.{told_more, few_told}
use Rattle.vh_stage.proofs.UnderWay.{parameters_count, last_count, replied_more, replies_count}
use Rattle.vh_stage.proofs.stage.Stage.end.Goals as goal

pub flush-requires-clause-entries : goal.flush-requires-clause-entries
flush-requires-clause-entries g c =
    let stage = c.args.self.now in
    let ready = c.requires.ready in
    let nodes = stage.engine.session.nodes in
    let is : c.fresh-entries.result.now ≡ waiting_in stage = c.fresh-entries.ensures ∙ ap (λ (es : List Entry). drop stage.played es) c.deref.ensures.value in
    let at : AreAt stage.engine.at (waiting_in stage) = subst (λ (n : ℕ). AreAt n (waiting_in stage)) (sym ready.at) ready.waiting in
    let on : AreOn nodes (waiting_in stage) = All-drop (λ (entry : Entry). IsOn nodes entry.command) stage.played stage.journal.items c.requires.fitted in
    may_carry g.P.Processor.class_of stage.engine nodes 1 c.fresh-entries.result.now (omega arith) ready.staged.classes refl
    (subst (λ (es : List Entry). AreOn nodes es) (sym is) on)
    (subst (λ (es : List Entry). AreAt stage.engine.at es) (sym is) at) (subst (λ (es : List Entry). length es ≤ stage.engine.room) (sym is) ready.few)

pub copy_replies-requires-clause-room : goal.copy_replies-requires-clause-room
copy_replies-requires-clause-room g c =
    let stage = c.args.self.now in
    let is : c.fresh-entries.result.now ≡ waiting_in stage = c.fresh-entries.ensures ∙ ap (λ (es : List Entry). drop stage.played es) c.deref.ensures.value in
    let few = few_told g.P.Processor.class_of stage c.requires.ready c.fresh-entries.result.now is c.flush.new.self.answers c.flush.ensures.answers in
    let count = replies_count c.replies.result.now c.flush.new.self.answers c.replies.ensures in
    let within : length stage.journal.items ≤ vec_capacity stage.journal = search rules in
    let room = c.requires.ready.staged.room.replies in
    omega (arith, few, count, within, room)

pub offer-requires-clause-values : goal.offer-requires-clause-values
offer-requires-clause-values g c =
    let stage = c.args.self.now in
    let staged = c.requires.ready.staged in
    let way = staged.under_way in
    ap length c.values.ensures.values ∙ ap length (c.flush.ensures.values (way.input ++ []) (taken_in stage) (way.stands []))
    ∙ last_count g.P.Processor.class_of stage.engine staged.classes (way.input ++ []) (taken_in stage ++ c.fresh-entries.result.now) ∙ sym (parameters_count stage.engine.session.nodes) ∙ sym (ap length staged.parameters)

pub offer-requires-clause-few : goal.offer-requires-clause-few
offer-requires-clause-few g c =
    let stage = c.args.self.now in
    let is : c.fresh-entries.result.now ≡ waiting_in stage = c.fresh-entries.ensures ∙ ap (λ (es : List Entry). drop stage.played es) c.deref.ensures.value in
    let few = few_told g.P.Processor.class_of stage c.requires.ready c.fresh-entries.result.now is c.flush.new.self.answers c.flush.ensures.answers in
    let count = replies_count c.replies-2.result.now c.flush.new.self.answers c.replies-2.ensures in
    let within : length stage.journal.items ≤ vec_capacity stage.journal = search rules in
    let room = c.requires.ready.staged.room.tells in
    omega (arith, few, count, within, room)

pub offer-requires-clause-more : goal.offer-requires-clause-more
offer-requires-clause-more g c =
    let stage = c.args.self.now in
    let is : c.fresh-entries.result.now ≡ waiting_in stage = c.fresh-entries.ensures ∙ ap (λ (es : List Entry). drop stage.played es) c.deref.ensures.value in
    let more = told_more g.P.Processor.class_of stage c.requires.ready c.fresh-entries.result.now is c.flush.new.self.answers c.flush.ensures.answers in
    let count = replies_count c.replies-2.result.now c.flush.new.self.answers c.replies-2.ensures in
    let before = replies_count (replies (offered (sender_in stage))) stage.engine.answers c.requires.ready.staged.replied in
    let grown = ap length more.1 in
    let sum = length-append stage.engine.answers more.0 in
    omega (arith, count, before, grown, sum)

pub returns-clause-replied : goal.returns-clause-replied
returns-clause-replied g c =
    let stage = c.args.self.now in
    let is : c.fresh-entries.result.now ≡ waiting_in stage = c.fresh-entries.ensures ∙ ap (λ (es : List Entry). drop stage.played es) c.deref.ensures.value in
    let more = told_more g.P.Processor.class_of stage c.requires.ready c.fresh-entries.result.now is c.flush.new.self.answers c.flush.ensures.answers in
    ap (λ (rs : List Reply). map answer_of rs) c.offer.ensures.replies
    ∙ replied_more (replies (offered (sender_in stage))) c.replies-2.result.now stage.engine.answers c.flush.new.self.answers more.0 c.requires.ready.staged.replied c.replies-2.ensures more.1

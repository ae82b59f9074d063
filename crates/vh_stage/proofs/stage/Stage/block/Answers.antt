use Rattle.std.proofs.Common.{rules, ◌≡◌, ◌∙◌, ◌++◌, ℕ, ◌*◌, ◌≤◌, List, [], length, map, drop, sym, ap, subst, arith, vec_capacity}
use Rattle.std.proofs.lemmas.List.{length-append, with_items_is}
use Rattle.vh_params.specs.declared.command.Reply.{Reply}
use Rattle.vh_session.specs.Content.{Content}
use Rattle.vh_journal.specs.declared.entry.Entry.{Entry}
use Rattle.vh_meaning.specs.Rendering.{answers}
use Rattle.vh_meaning.proofs.Answering.{law_each_is_answered}
use Rattle.vh_engine.specs.Kept.{scene_in}
use Rattle.vh_engine.specs.Staged.{answer_of}
use Rattle.vh_back.specs.Items.{replies}
use Rattle.vh_back.specs.Ends.{offered}
use Rattle.vh_stage.specs.Parameters.{all_parameters}
use Rattle.vh_stage.specs.Playing.{IsUpTo, IsUnderWay, IsRead, IsHeard, AreAt}
use Rattle.vh_stage.specs.Staged.{AreAtBlocks, sender_in}
use Rattle.vh_stage.proofs.Parted.{same_classes}
use Rattle.vh_stage.proofs.Stages.{up_to_more, up_to_later, blocks_more, fresh_is}
use Rattle.vh_stage.proofs.UnderWay.{parameters_count, few_answers, replied_more, replies_count}
use Rattle.vh_stage.proofs.stage.Stage.block.Goals as goal

pub offer-requires-clause-values : goal.offer-requires-clause-values
offer-requires-clause-values g c =
    let stage = c.args.self.now in
    let staged = c.requires.ready.staged in
    ap length c.values-values.ensures.values ∙ c.in-Ok.ensures.values stage.journal.items staged.under_way ∙ sym (parameters_count stage.engine.session.nodes) ∙ sym (ap length staged.parameters)

pub offer-requires-clause-few : goal.offer-requires-clause-few
offer-requires-clause-few g c =
    let stage = c.args.self.now in
    let old = stage.journal.items in
    let new = c.take.new.journal.items in
    let more : List Entry = c.take.ensures.added.0 in
    let is : new ≡ old ++ more = c.take.ensures.added.1 in
    let staged = c.requires.ready.staged in
    let entries : c.fresh-entries.result.now ≡ more = c.fresh-entries.ensures ∙ ap (λ (es : List Entry). drop stage.played es) c.deref.ensures.value ∙ fresh_is old new more stage.played is c.requires.ready.played in
    let way = c.in-Ok.ensures.under_way old staged.under_way in
    let input = way.input ++ [] in
    let engine = c.play_block.new.engine in
    let stands = way.stands [] in
    let answered = ap length stands.answers in
    let few = few_answers law_each_is_answered (scene_in g.P.Processor.class_of engine) input (old ++ c.fresh-entries.result.now) in
    let size = ap (λ (es : List Entry). length (old ++ es)) entries ∙ sym (ap length is) in
    let count = replies_count c.replies-replies.result.now engine.answers c.replies-replies.ensures in
    let tells = staged.room.tells in
    let within : length new ≤ vec_capacity c.take.new.journal = search rules in
    let capacity = c.take.ensures.capacity in
    omega (arith, answered, few, size, count, tells, within, capacity)

pub returns-clause-ready : goal.returns-clause-ready
returns-clause-ready g c =
    let stage = c.args.self.now in
    let old = stage.journal.items in
    let new = c.take.new.journal.items in
    let more : List Entry = c.take.ensures.added.0 in
    let is : new ≡ old ++ more = c.take.ensures.added.1 in
    let ready = c.requires.ready in
    let staged = ready.staged in
    let at : ℕ = stage.engine.at in
    let here : AreAt at more = subst (λ (s : ℕ). AreAt s more) c.requires.start c.take.ensures.added.2 in
    let entries : c.fresh-entries.result.now ≡ more = c.fresh-entries.ensures ∙ ap (λ (es : List Entry). drop stage.played es) c.deref.ensures.value ∙ fresh_is old new more stage.played is ready.played in
    let whole : old ++ c.fresh-entries.result.now ≡ new = ap (λ (es : List Entry). old ++ es) entries ∙ sym is in
    let count : length c.fresh-entries.result.now ≡ length more = ap length entries in
    let size : length new ≡ length (old ++ more) = ap length is in
    let sum = length-append old more in
    let room = c.in-Ok.ensures.room in
    let few = ready.few in
    let capacity = c.take.ensures.capacity in
    let moved = c.in-Ok.ensures.at in
    let same = c.in-Ok.ensures.same in
    let engine = c.play_block.new.engine in
    let channels : engine.session.channels ≡ stage.engine.session.channels = ap (λ (content : Content). content.channels) same.session in
    let buffer : engine.session.channels * engine.max ≡ stage.engine.session.channels * stage.engine.max = ap (λ (n : ℕ). n * engine.max) channels ∙ ap (λ (n : ℕ). stage.engine.session.channels * n) same.max in
    let ins = staged.room.ins in
    let outs = staged.room.outs in
    let long_ins = ap length (with_items_is stage.buffers.ins c.play_block.new.ins (c.play_block.auto.ins ∙ c.deref_mut.ensures.len)) ∙ c.play_block.auto.ins ∙ ap length c.deref_mut.ensures.value in
    let long_outs = ap length (with_items_is stage.buffers.outs c.play_block.new.outs (c.play_block.auto.outs ∙ c.deref_mut-2.ensures.len)) ∙ c.play_block.auto.outs ∙ ap length c.deref_mut-2.ensures.value in
    let has_replies = staged.room.replies in
    let has_tells = staged.room.tells in
    let still_tells = c.offer.ensures.tells in
    let later = c.in-Ok.ensures.answers old staged.under_way in
    let told = replies (offered (sender_in stage)) in
    record {
      staged = record {
        going = c.in-Ok.ensures.going;
        classes = same_classes g.P.Processor.class_of stage.engine engine same staged.classes;
        under_way = subst (λ (es : List Entry). IsUnderWay g.P.Processor.class_of engine es) whole (c.in-Ok.ensures.under_way old staged.under_way);
        parameters = c.offer.ensures.parameters ∙ staged.parameters ∙ sym (ap (λ (content : Content). all_parameters content.nodes) same.session);
        echoed = c.offer.ensures.echoed ∙ c.values-values.ensures.values;
        replied = ap (λ (rs : List Reply). map answer_of rs) c.offer.ensures.replies
            ∙ replied_more told c.replies-replies.result.now stage.engine.answers engine.answers later.0 staged.replied c.replies-replies.ensures later.1;
        none = staged.none;
        room = record {
          ins = omega (arith, buffer, ins, long_ins);
          outs = omega (arith, buffer, outs, long_outs);
          replies = omega (arith, has_replies, capacity);
          tells = omega (arith, has_tells, capacity, still_tells);
        };
      };
      played = search rules;
      few = omega (arith, count, size, sum, room, few, capacity);
      up_to = up_to_later at engine.at new (omega (arith, moved)) (subst (λ (es : List Entry). IsUpTo at es) (sym is) (up_to_more at old more ready.up_to here));
    }

pub returns-clause-heard : goal.returns-clause-heard
returns-clause-heard g c = λ input before heard.
    let stage = c.args.self.now in
    let old = stage.journal.items in
    let new = c.take.new.journal.items in
    let more : List Entry = c.take.ensures.added.0 in
    let is : new ≡ old ++ more = c.take.ensures.added.1 in
    let entries : c.fresh-entries.result.now ≡ more = c.fresh-entries.ensures ∙ ap (λ (es : List Entry). drop stage.played es) c.deref.ensures.value ∙ fresh_is old new more stage.played is c.requires.ready.played in
    let whole : old ++ c.fresh-entries.result.now ≡ new = ap (λ (es : List Entry). old ++ es) entries ∙ sym is in
    subst (λ (es : List Entry). IsHeard g.I.Frames.reads g.I.Frames.wrote g.P.Processor.class_of c.play_block.new.engine c.play_block.new.frames input before es) whole (c.in-Ok.ensures.heard input before old heard)

pub returns-clause-stands : goal.returns-clause-stands
returns-clause-stands g c = λ input read.
    let stage = c.args.self.now in
    let old = stage.journal.items in
    let new = c.take.new.journal.items in
    let more : List Entry = c.take.ensures.added.0 in
    let is : new ≡ old ++ more = c.take.ensures.added.1 in
    let entries : c.fresh-entries.result.now ≡ more = c.fresh-entries.ensures ∙ ap (λ (es : List Entry). drop stage.played es) c.deref.ensures.value ∙ fresh_is old new more stage.played is c.requires.ready.played in
    let whole : old ++ c.fresh-entries.result.now ≡ new = ap (λ (es : List Entry). old ++ es) entries ∙ sym is in
    subst (λ (es : List Entry). IsRead g.I.Frames.reads g.P.Processor.class_of c.play_block.new.engine c.play_block.new.frames input es) whole (c.in-Ok.ensures.stands input old read)

pub returns-clause-blocks : goal.returns-clause-blocks
returns-clause-blocks g c = λ pattern here blocks.
    let stage = c.args.self.now in
    let piece = c.args.piece in
    let old = stage.journal.items in
    let new = c.take.new.journal.items in
    let more : List Entry = c.take.ensures.added.0 in
    let is : new ≡ old ++ more = c.take.ensures.added.1 in
    subst (λ (es : List Entry). AreAtBlocks stage.engine.session.length pattern es) (sym is) (blocks_more stage.engine.session.length pattern piece.start old more here c.take.ensures.added.2 blocks)

pub returns-clause-up_to : goal.returns-clause-up_to
returns-clause-up_to g c =
    let stage = c.args.self.now in
    let piece = c.args.piece in
    let old = stage.journal.items in
    let new = c.take.new.journal.items in
    let more : List Entry = c.take.ensures.added.0 in
    let is : new ≡ old ++ more = c.take.ensures.added.1 in
    let within = c.requires.within in
    let up_to : IsUpTo piece.start old = subst (λ (s : ℕ). IsUpTo s old) (sym c.requires.start) c.requires.ready.up_to in
    up_to_later piece.start stage.engine.session.length new (omega (arith, within)) (subst (λ (es : List Entry). IsUpTo piece.start es) (sym is) (up_to_more piece.start old more up_to c.take.ensures.added.2))

use Rattle.std.proofs.Common.{rules, ◌≡◌, ◌∙◌, ℕ, ◌*◌, ◌≤◌, List, [], length, map, vec_capacity, sym, ap, subst, arith}
use Rattle.vh_params.specs.Nodes.{nodes_of}
use Rattle.vh_params.specs.declared.command.Reply.{Reply}
use Rattle.vh_session.specs.Content.{Content}
use Rattle.vh_journal.specs.declared.entry.Entry.{Entry}
use Rattle.vh_engine.specs.Kept.{Kept, Stands}
use Rattle.vh_engine.specs.Staged.{answer_of}
use Rattle.vh_back.specs.Items.{replies}
use Rattle.vh_back.specs.Ends.{offered}
use Rattle.vh_stage.specs.Parameters.{all_parameters}
use Rattle.vh_stage.specs.Playing.{HasClasses, IsUpTo}
use Rattle.vh_stage.specs.Staged.{sender_in, parameters_in}
use Rattle.vh_stage.proofs.Parted.{has_classes}
use Rattle.vh_stage.proofs.Stages.{up_to_none}
use Rattle.vh_stage.proofs.UnderWay.{parameters_count}
use Rattle.vh_stage.proofs.stage.Stage.new.Goals as goal

pub new-requires-clause-firsts : goal.new-requires-clause-firsts
new-requires-clause-firsts g c = ap length c.deref.ensures.value ∙ c.requires.parts.flat ∙ sym (parameters_count (nodes_of c.args.parts.session.nodes))

pub returns-in-Ok-new-clause-ready : goal.returns-in-Ok-new-clause-ready
returns-in-Ok-new-clause-ready g c =
    let fresh = c.in-Ok-new.ensures.fresh in
    let stage = c.staged.result.0 in
    let engine = c.staged.ensures.engine in
    let none : stage.journal.items ≡ [] = search rules in
    let capacity : vec_capacity stage.journal ≡ c.args.edits = search rules in
    let room : stage.engine.room ≡ c.in-Ok-new.engine.room = ap (λ (k : Kept). k.room) engine in
    let most = fresh.room in
    let empty : length stage.journal.items ≡ 0 = ap length none in
    let played = c.staged.ensures.played in
    let parameters : parameters_in stage ≡ all_parameters (nodes_of c.args.parts.session.nodes) = search rules in
    let told : replies (offered (sender_in stage)) ≡ [] = search rules in
    let tells : (sender_in stage).tells ≡ c.args.edits = search rules in
    let copies : vec_capacity stage.replies ≡ c.args.edits = search rules in
    let ins : length stage.buffers.ins.items ≡ c.args.parts.session.channels * c.args.max = search rules in
    let outs : length stage.buffers.outs.items ≡ c.args.parts.session.channels * c.args.max = search rules in
    let session = ap (λ (k : Kept). k.session) engine ∙ fresh.session in
    let buffer : stage.engine.session.channels * stage.engine.max ≡ c.args.parts.session.channels * c.args.max =
    ap (λ (content : Content). content.channels * stage.engine.max) session ∙ ap (λ (n : ℕ). c.args.parts.session.channels * n) (ap (λ (k : Kept). k.max) engine ∙ fresh.max_is) in
    record {
      staged = record {
        going = ap (λ (k : Kept). k.flushed) engine ∙ fresh.flushed;
        classes = subst (λ (k : Kept). HasClasses g.P.Processor.class_of k) (sym engine)
            (has_classes g.P.Processor.class_of g.P.Processor.code g.P.Processor.state g.P.Processor.values g.P.Life.phase g.P.Life.last_setup c.args.parts c.args.max c.requires.parts g.P.Processor.calls _ c.in-Ok-new.engine fresh);
        under_way = record {
          input = [];
          so_far = sym (ap (λ (k : Kept). k.at) engine ∙ fresh.at);
          stands = λ later. subst (λ (k : Kept). Stands g.P.Processor.class_of k later stage.journal.items) (sym engine)
              (subst (λ (es : List Entry). Stands g.P.Processor.class_of c.in-Ok-new.engine later es) (sym none) (c.in-Ok-new.ensures.stands later));
        };
        parameters = parameters ∙ sym (ap (λ (content : Content). all_parameters content.nodes) session);
        echoed = search rules;
        replied = ap (λ (rs : List Reply). map answer_of rs) told ∙ sym (ap (λ (k : Kept). k.answers) engine ∙ (c.in-Ok-new.ensures.stands []).answers);
        none = search rules;
        room = record {
          ins = omega (arith, buffer, ins);
          outs = omega (arith, buffer, outs);
          replies = omega (arith, capacity, copies);
          tells = omega (arith, capacity, tells);
        };
      };
      played = omega (arith, played, empty);
      few = omega (arith, capacity, room, most);
      up_to = subst (λ (es : List Entry). IsUpTo stage.engine.at es) (sym none) (up_to_none stage.engine.at);
    }

pub returns-in-Ok-new-clause-stands : goal.returns-in-Ok-new-clause-stands
returns-in-Ok-new-clause-stands g c = λ input. subst (λ (k : Kept). Stands g.P.Processor.class_of k input []) (sym c.staged.ensures.engine) (c.in-Ok-new.ensures.stands input)

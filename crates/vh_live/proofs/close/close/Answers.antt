use Rattle.std.proofs.Common.{◌≡◌, ◌∙◌, ℕ, List, ◌∷◌, map, refl, sym, ap, subst, arith}
use Rattle.std.specs.Prelude.{All, OnOk}
use Rattle.std.specs.List.{concat}
use Rattle.vh_params.specs.Nodes.{Node}
use Rattle.vh_journal.specs.declared.entry.Entry.{Entry}
use Rattle.vh_session.specs.Content.{Content}
use Rattle.vh_session.specs.Names.{content_of}
use Rattle.vh_meaning.specs.Rendering.{answers, last_values}
use Rattle.vh_legal.specs.Legal.{IsLegal, IsLegalFor}
use Rattle.vh_legal.specs.Blocks.{IsAtBlock}
use Rattle.vh_engine.specs.Kept.{scene_in, Stands}
use Rattle.vh_engine.specs.Staged.{answer_of}
use Rattle.vh_back.specs.Items.{last_value}
use Rattle.vh_back.specs.Ends.{offered}
use Rattle.vh_back.specs.Follows.{followed}
use Rattle.vh_instance.specs.Band.{objects_of}
use Rattle.vh_instance.specs.Seats.{Seat, opener_seat, row_seats, AreHeld}
use Rattle.vh_stage.specs.Carried.{AreOn}
use Rattle.vh_stage.specs.Parameters.{all_parameters}
use Rattle.vh_stage.specs.Playing.{AreAt}
use Rattle.vh_stage.specs.Staged.{IsTold, sender_in, parameters_in, replies_in, taken_in}
use Rattle.vh_hands.specs.Hands.{AreInHand}
use Rattle.vh_hands.specs.Following.{HaveParams}
use Rattle.vh_hands.proofs.Values.{meant_same}
use Rattle.vh_live.proofs.Accounts.{legal_in}
use Rattle.vh_live.proofs.Closed.{seats_same, up_to_for, on_front, ends, replies_closed, values_closed}
use Rattle.vh_live.proofs.close.close.Goals as goal

pub gather-requires-clause-up_to : goal.gather-requires-clause-up_to
gather-requires-clause-up_to g c = up_to_for c.args.run.stage.engine.session.length c.session.result.now.length c.args.run.stage.journal.items (ap (λ (content : Content). content.length) c.session.ensures) c.requires.1.up_to

pub end-outcome-requires-clause-ready : goal.end-outcome-requires-clause-ready
end-outcome-requires-clause-ready g c =
    let over = c.requires.1 in
    let added = c.gather.ensures.added in
    let same = ap (λ (content : Content). content.length) c.session.ensures in
    ends g.P.Processor.class_of c.args.blocks c.args.run.stage c.gather.new.journal added.0 over.ready over.at added.1 (subst (λ (n : ℕ). AreAt n added.0) same added.2) c.gather.ensures.capacity (let ok = c.gather.new.journal.ok in omega (arith, ok.0, ok.1))

pub end-outcome-requires-clause-fitted : goal.end-outcome-requires-clause-fitted
end-outcome-requires-clause-fitted g c =
    let session = c.requires.0 in
    let over = c.requires.1 in
    let journal = c.gather.new.journal.items in
    let same = ap (λ (content : Content). content.length) c.session.ensures in
    let length_is = ap (λ (content : Content). content.length) over.session_is in
    let blocks = subst (λ (n : ℕ). All (λ (entry : Entry). IsAtBlock n (content_of session).pattern entry.sample) c.args.run.stage.journal.items) (sym (same ∙ length_is)) over.placed in
    let legal : IsLegalFor session journal = legal_in _ _ _ _ (content_of session).pattern (content_of session).pattern _ _ journal over.nodes (same ∙ length_is) refl over.scripts (c.gather.ensures.legal (content_of session).pattern blocks) in
    subst (λ (nodes : List Node). AreOn nodes journal) (sym (ap (λ (content : Content). content.nodes) over.session_is)) (c.legal_is_on.ensures session journal legal)

pub end-outcome-requires-clause-fit : goal.end-outcome-requires-clause-fit
end-outcome-requires-clause-fit g c = λ is.
    let session = c.requires.0 in
    let over = c.requires.1 in
    let added = c.gather.ensures.added in
    let nodes = c.args.run.stage.engine.session.nodes in
    let journal = c.gather.new.journal.items in
    let same = ap (λ (content : Content). content.length) c.session.ensures in
    let length_is = ap (λ (content : Content). content.length) over.session_is in
    let blocks = subst (λ (n : ℕ). All (λ (entry : Entry). IsAtBlock n (content_of session).pattern entry.sample) c.args.run.stage.journal.items) (sym (same ∙ length_is)) over.placed in
    let legal : IsLegalFor session journal = legal_in _ _ _ _ (content_of session).pattern (content_of session).pattern _ _ journal over.nodes (same ∙ length_is) refl over.scripts (c.gather.ensures.legal (content_of session).pattern blocks) in
    let on : AreOn nodes journal = subst (λ (nodes : List Node). AreOn nodes journal) (sym (ap (λ (content : Content). content.nodes) over.session_is)) (c.legal_is_on.ensures session journal legal) in
    over.fit is (on_front nodes c.args.run.stage.journal.items added.0 (subst (AreOn nodes) added.1 on))

pub returns : goal.returns
returns g c =
    let over = c.requires.1 in
    let run = c.args.run in
    let added = c.gather.ensures.added in
    let end = c.end-outcome.ensures in
    let finish = c.finish-parts.ensures in
    let settle = c.settle-controllers.ensures in
    let hands = c.hand_out.ensures in
    let stage = c.end-outcome.new.stage in
    let same = ap (λ (content : Content). content.length) c.session.ensures in
    let journal : c.finish-parts.result.journal.items ≡ c.gather.new.journal.items = ap (λ v. v.items) finish.journal ∙ end.journal in
    record {
      outcome = end.outcome;
      gathered = record {
        more = added.0;
        added = journal ∙ added.1;
        at = subst (λ (n : ℕ). AreAt n added.0) same added.2;
        legal = λ pattern blocks.
            subst (λ (n : ℕ). IsLegal run.editors.nodes n pattern run.editors.scripts c.finish-parts.result.journal.items) same
            (subst (λ (entries : List Entry). IsLegal run.editors.nodes c.session.result.now.length pattern run.editors.scripts entries) (sym journal)
            (c.gather.ensures.legal pattern (subst (λ (n : ℕ). All (λ (entry : Entry). IsAtBlock n pattern entry.sample) run.stage.journal.items) (sym same) blocks)));
        refused_are = c.gather.ensures.refused;
      };
      kept = stage.engine;
      same = end.same;
      given = finish.parts;
      calls = end.calls;
      replies = λ input. replies_closed g.P.Processor.class_of c.args.blocks run.stage c.gather.new.journal added.0 input over.ready added.1 c.finish-parts.result.replies.items (replies_in stage)
          (answers (scene_in g.P.Processor.class_of run.stage.engine) input c.finish-parts.result.journal.items) finish.replies
          (subst (λ (entries : List Entry). OnOk c.args.blocks (Stands g.P.Processor.class_of run.stage.engine input (taken_in (record run.stage { journal = c.gather.new.journal })) → map answer_of (replies_in stage) ≡ answers (scene_in g.P.Processor.class_of run.stage.engine) input entries)) (sym journal) (end.answers input));
      values = λ input firsts params parameters following.
          values_closed g.P.Processor.class_of c.args.blocks run.stage c.gather.new.journal added.0 input over.ready added.1 (last_value (offered (sender_in stage))) (parameters_in stage) (all_parameters run.editors.nodes) (concat firsts) stage.engine.values _
          (last_values (scene_in g.P.Processor.class_of run.stage.engine) input c.finish-parts.result.journal.items) (IsTold run.stage (concat firsts))
          (settle.values run.editors.nodes firsts (subst (λ (codes : List ℕ). HaveParams g.C.Controller.class_of codes run.editors.nodes) (sym (meant_same g.C.Controller.code c.hand_out.new.self.edits.items run.hands.edits.items hands.values)) params) (hands.following firsts following)
          ∙ ap (λ sender. followed (last_value (offered sender)) (all_parameters run.editors.nodes) (concat firsts)) finish.sender)
          (end.same_stage.parameters ∙ parameters) (end.told (concat firsts))
          (subst (λ (entries : List Entry). OnOk c.args.blocks (Stands g.P.Processor.class_of run.stage.engine input (taken_in (record run.stage { journal = c.gather.new.journal })) → stage.engine.values ≡ last_values (scene_in g.P.Processor.class_of run.stage.engine) input entries)) (sym journal) (end.values input));
      components = refl;
      controllers = settle.controllers ∙ hands.controllers;
      codes = settle.same.codes ∙ meant_same g.C.Controller.code c.hand_out.new.self.edits.items run.hands.edits.items hands.values;
      modes = settle.same.modes ∙ meant_same g.C.Controller.mode c.hand_out.new.self.edits.items run.hands.edits.items hands.values;
      hands = subst (λ holders. AreInHand run.editors.nodes run.editors.scripts (map row_seats holders.items)) (sym settle.holders) hands.hands;
      held = subst (λ controllers. AreHeld (objects_of controllers.items) (map opener_seat c.settle-controllers.result.1.items ∷ map row_seats c.settle-controllers.result.2.items)) (sym settle.controllers)
          (subst (λ holders. AreHeld (objects_of c.hand_out.new.self.controllers.items) (map opener_seat c.settle-controllers.result.1.items ∷ map row_seats holders.items)) (sym settle.holders)
          (subst (λ (seats : List Seat). AreHeld (objects_of c.hand_out.new.self.controllers.items) (seats ∷ map row_seats c.hand_out.new.self.holders.items)) (sym (seats_same c.settle-controllers.result.1.items c.hand_out.new.self.edits.items settle.same.objects settle.same.numbers)) hands.held));
    }

use Rattle.std.proofs.Common.{◌++◌, ℕ, List, ap, ◌∙◌, arith, append_assoc}
use Rattle.vh_back.specs.declared.item.Item.{Item}
use Rattle.vh_back.specs.Items.{parameter}
use Rattle.vh_back.specs.Ends.{offered}
use Rattle.vh_back.proofs.Offering.{not_offered, one_offered}
use Rattle.vh_back.proofs.sender.Sender.offer_changes.Goals.{then-changed, else-changed}
use Rattle.vh_back.proofs.sender.Sender.offer_changes.Goals as goal

pub loop-place-preserved : goal.loop-place-preserved
loop-place-preserved c =
    let was = c.loop-place.invariant in
    let place : ℕ = c.loop-place.place in
    let within = c.loop-place-test.true in
    elim c.if-changed.branch [
      | then-changed w ↦
          let now = w.offer.ensures in
          rw (w.self-is, w.echoed-is) (record {
            offered_so = one_offered c.args.parameters.now c.args.echoed.now c.args.values.now c.args.after c.args.last (offered c.args.self.now) c.loop-place.self.sent c.loop-place.self.kept c.loop-place.echoed place (parameter 0 0)
                was.offered_so c.requires.apart within c.requires.values w.if-changed.true (offered w.offer.new.self) now.offered now.last now.replies;
            sent_so = (
              was.sent_so.0 ++ now.sent.0,
              now.sent.1 ∙ ap (λ (items : List Item). items ++ now.sent.0) was.sent_so.1 ∙ append_assoc c.args.self.now.sent was.sent_so.0 now.sent.0,
            );
            room_so = omega (arith, was.room_so, now.room);
            same_so = record {
              ring = now.same.ring ∙ was.same_so.ring;
              params = now.same.params ∙ was.same_so.params;
              tells = now.same.tells ∙ was.same_so.tells;
            };
          })
      | else-changed w ↦ rw (w.self-is, w.echoed-is) (record {
        offered_so = not_offered c.args.parameters.now c.args.echoed.now c.args.values.now c.args.after c.args.last (offered c.args.self.now) (offered c.loop-place.self) c.loop-place.echoed place (parameter 0 0)
            was.offered_so within c.requires.values w.if-changed.false;
        sent_so = was.sent_so;
        room_so = was.room_so;
        same_so = was.same_so;
      })
    ]

use Rattle.std.proofs.Common.{◌≡◌, ◌++◌, List}
use Rattle.vh_back.specs.declared.item.Item.{Item}
use Rattle.vh_back.specs.Ends.{offered, IsSame, KeepsRoom}
use Rattle.vh_back.proofs.Offering.{AreOffered}
use Rattle.vh_back.proofs.sender.Sender.offer_changes.Given as goal

abbrev pub invariant-loop-place : goal.invariant-loop-place
invariant-loop-place l = record {
  offered_so : AreOffered l.parameters l.initial.echoed l.values l.after l.last (offered l.initial.self) (offered l.self) l.echoed l.place;
  sent_so : (items : List Item) × (l.self.sent ≡ l.initial.self.sent ++ items);
  room_so : KeepsRoom l.initial.self l.self;
  same_so : IsSame l.initial.self l.self;
}

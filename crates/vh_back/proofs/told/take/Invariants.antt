use Rattle.std.proofs.Common.{◌≡◌, ◌++◌, List, length}
use Rattle.rtrb.specs.Ring.{received, known_items, SameConsumer}
use Rattle.vh_back.specs.declared.item.Item.{Item}
use Rattle.vh_back.specs.Items.{last_value}
use Rattle.vh_back.specs.Follows.{of_openers, AreFollowed, AreAsBefore}
use Rattle.vh_back.proofs.told.take.Given as goal

abbrev pub invariant-loop : goal.invariant-loop
invariant-loop g l = record {
  taken : (items : List Item) × (length items ≡ l.counter)
      × (received l.consumer ≡ received l.initial.consumer ++ items)
      × (known_items l.initial.consumer ≡ items ++ known_items l.consumer)
      × AreFollowed g.C.Controller.class_of (last_value items) (of_openers g.C.Controller.code l.initial.edits) (of_openers g.C.Controller.values l.initial.edits) (of_openers g.C.Controller.values l.edits);
  same : AreAsBefore g.C.Controller.code g.C.Controller.mode l.initial.edits l.edits;
  ring : SameConsumer l.initial.consumer l.consumer;
}

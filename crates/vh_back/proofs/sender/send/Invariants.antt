use Rattle.std.proofs.Common.{◌≡◌, ◌≤◌, ◌+◌, ◌++◌, List, length, true}
use Rattle.std.specs.List.{list_all}
use Rattle.rtrb.specs.Ring.{sent, known_free, SameProducer}
use Rattle.vh_back.specs.declared.item.Item.{Item}
use Rattle.vh_back.specs.Items.{is_within}
use Rattle.vh_back.proofs.sender.send.Given as goal

abbrev pub invariant-loop-item : goal.invariant-loop-item
invariant-loop-item l = record {
  moved : (items : List Item) × (sent l.producer ≡ sent l.initial.producer ++ items) × (l.initial.kept.items ≡ items ++ l.kept.items);
  within : list_all is_within l.kept.items ≡ true;
  room : known_free l.initial.producer + length (sent l.initial.producer) ≤ known_free l.producer + length (sent l.producer);
  ring : SameProducer l.initial.producer l.producer;
  capacity : l.kept.capacity ≡ l.initial.kept.capacity;
}

abbrev pub decreases-loop-item : goal.decreases-loop-item
decreases-loop-item l = length l.kept.items

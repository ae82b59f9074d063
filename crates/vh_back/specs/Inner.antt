-- What the two ends keep.
use Rattle.std.specs.Prelude.{◌≡◌, ℕ, ◌≤◌, ◌+◌, true, List, length}
use Rattle.std.specs.List.{list_all, IsDistinct}
use Rattle.std.specs.declared.alloc.Global.{Global}
use Rattle.rtrb.specs.declared.producer.Producer.{Producer}
use Rattle.rtrb.specs.declared.consumer.Consumer.{Consumer}
use Rattle.rtrb.specs.Ring.{sent, known_free, received}
use Rattle.vh_back.specs.declared.item.Item.{Item}
use Rattle.vh_back.specs.declared.item.WithinOne.{WithinOne}
use Rattle.vh_back.specs.declared.sender.Sender.TheInside.{Inside as Sends}
use Rattle.vh_back.specs.declared.follower.Follower.TheInside.{Inside as Follows}
use Rattle.vh_back.specs.Items.{is_same, is_within, echoed, replies}
use Rattle.vh_back.specs.Ends.{Ring, AtSender, AtFollower}

abbrev pub ring_of_producer : Producer Item Global WithinOne → Ring
ring_of_producer producer = record { words = producer.end.words; slots = producer.end.slots; names = producer.end.names; heap = producer.end.heap }

abbrev pub ring_of_consumer : Consumer Item Global WithinOne → Ring
ring_of_consumer consumer = record { words = consumer.end.words; slots = consumer.end.slots; names = consumer.end.names; heap = consumer.end.heap }

abbrev pub at_sender : Sends → AtSender
at_sender sender = record {
  ring = ring_of_producer sender.producer;
  sent = sent sender.producer;
  kept = sender.kept.items;
  free = known_free sender.producer;
  params = sender.params;
  tells = sender.tells;
}

abbrev pub at_follower : Follows → AtFollower
at_follower follower = record { ring = ring_of_consumer follower.consumer; received = received follower.consumer }

-- What a sender keeps: of each parameter one echo at most, none above 1.0, and no more replies than it may send.
pub record IsKept (params tells : ℕ) (kept : List Item) : Type 0 where
  pub within : list_all is_within kept ≡ true
  pub apart : IsDistinct is_same (echoed kept)
  pub echoes : length (echoed kept) ≤ params
  pub answers : length (replies kept) ≤ tells

-- there is a place for an echo of each parameter and for every reply
pub record IsSender (sender : Sends) : Type 0 where
  pub kept : IsKept sender.params sender.tells sender.kept.items
  pub room : sender.params + sender.tells ≤ sender.kept.capacity

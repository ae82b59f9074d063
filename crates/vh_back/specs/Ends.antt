-- What callers see of the two ends of a link.
use Rattle.std.specs.Prelude.{◌≡◌, ℕ, ◌<◌, ◌≤◌, ◌+◌, true, List, [], ◌∷◌, ◌++◌, length}
use Rattle.std.specs.List.{list_all}
use Rattle.std.specs.declared.alloc.Global.{Global}
use denote.RawPtr.{Ptr}
use Rattle.vh_back.specs.declared.item.Parameter.{Parameter}
use Rattle.vh_back.specs.declared.item.Item.{Item}
use Rattle.vh_back.specs.declared.item.Item.TheVariants.{Echo, Reply}
use Rattle.vh_back.specs.Items.{is_among, replies}

-- which ring: where it lies, and its names in proofs
pub record Ring : Type 0 where
  pub words : Ptr
  pub slots : Ptr
  pub names : ℕ × (ℕ × ℕ)
  pub heap : Global

-- the end that sends
pub record AtSender : Type 0 where
  pub ring : Ring
  -- what it put into the ring, the oldest first
  pub sent : List Item
  -- what found no room: of each parameter the latest echo, and each reply
  pub kept : List Item
  -- the places of the ring that it knows to be free
  pub free : ℕ
  -- how many parameters may be echoed, and how many messages answered
  pub params : ℕ
  pub tells : ℕ

-- the end that follows
pub record AtFollower : Type 0 where
  pub ring : Ring
  -- what it took from the ring, the oldest first
  pub received : List Item

-- What was offered to a sender: an echo that was replaced before it was sent is left out.
abbrev pub offered : AtSender → List Item
offered sender = sender.sent ++ sender.kept

-- the ends as they are made
abbrev pub new_sender : Ring → ℕ → ℕ → ℕ → AtSender
new_sender ring room params tells = record { ring = ring; sent = []; kept = []; free = room; params = params; tells = tells }

abbrev pub new_follower : Ring → AtFollower
new_follower ring = record { ring = ring; received = [] }

-- what no offer changes
pub record IsSame (old new : AtSender) : Type 0 where
  pub ring : new.ring ≡ old.ring
  pub params : new.params ≡ old.params
  pub tells : new.tells ≡ old.tells

-- no place of the ring that was known to be free is lost, but those that were filled
abbrev pub KeepsRoom : AtSender → AtSender → Type 0
KeepsRoom old new = old.free + length old.sent ≤ new.free + length new.sent

-- There are so many parameters at most of which these items are echoes.
pub record AreOfFew (most : ℕ) (items : List Item) : Type 0 where
  pub parameters : List Parameter
  pub few : length parameters ≤ most
  pub among : list_all (is_among parameters) items ≡ true

-- A sender may be offered an item: no more parameters are echoed, and no more messages answered, than it was made for.
abbrev pub MayOffer : AtSender → Item → Type 0
MayOffer sender (Echo node id value after last) = AreOfFew sender.params (offered sender ++ Echo node id value after last ∷ [])
MayOffer sender (Reply reply) = length (replies (offered sender)) < sender.tells

-- How the controllers of a session follow.
use Rattle.std.specs.Prelude.{◌≡◌, ◌<◌, ℕ, List, [], length, map, slice_index, slice_index_or}
use Rattle.vh_params.specs.Nodes.{Node, node_at}
use Rattle.vh_plugin.specs.Class.{Class, param_of}
use Rattle.vh_back.specs.Ends.{AtFollower}
use Rattle.vh_back.specs.Items.{last_value}
use Rattle.vh_back.specs.Follows.{of_openers, AreFollowed}
use Rattle.vh_hands.specs.declared.hands.Hands.{Hands}

-- the classes of these codes have the parameters of these nodes
pub record HaveParams (class_of : ℕ → Class) (codes : List ℕ) (nodes : List Node) : Type 0 where
  pub size : length codes ≡ length nodes
  pub params : (node : ℕ) → node < length nodes → (class_of (slice_index codes node)).params ≡ map param_of (node_at nodes node).params

-- The controllers had these values, and have followed what was received since. The values are those of the classes'
-- parameters, node by node.
pub record HaveFollowed (class_of : ℕ → Class) (codes : List ℕ) (firsts values : List (List ℕ)) (follower : AtFollower) : Type 0 where
  pub size : length firsts ≡ length codes
  pub sizes : (node : ℕ) → node < length codes → length (slice_index_or firsts node []) ≡ length (class_of (slice_index codes node)).params
  pub followed : AreFollowed class_of (last_value follower.received) codes firsts values

abbrev pub IsFollowing : {C : Type 0} → (ℕ → Class) → (C → ℕ) → (C → List ℕ) → List (List ℕ) → Hands C → Type 0
IsFollowing class_of code values firsts hands = HaveFollowed class_of (of_openers code hands.edits.items) firsts (of_openers values hands.edits.items) hands.follower

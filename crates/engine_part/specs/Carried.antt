-- What a block of a session may carry, from the session's own parameters.
use Rattle.std.specs.Prelude.{◌≡◌, ◌<◌, ◌≤◌, ◌^◌, ℕ, true, List, length, slice_index_or, All, Some}
use Rattle.vh_journal.specs.declared.entry.Entry.{Entry}
use Rattle.vh_meaning.specs.Rendering.{message_sample}
use Rattle.vh_params.specs.declared.command.Command.{Command}
use Rattle.vh_params.specs.declared.command.Command.TheVariants.{Begin, Perform, End, Tell}
use Rattle.vh_params.specs.Nodes.{Node}
use Rattle.vh_session.specs.Keeps.{can_set}

-- a command on a node that is there, and on a parameter that can be set
abbrev pub IsOn : List Node → Command → Type 0
IsOn nodes (Begin node id) = can_set nodes node id ≡ true
IsOn nodes (Perform node id value) = (can_set nodes node id ≡ true) × (value ≤ 2 ^ 24)
IsOn nodes (End node id) = can_set nodes node id ≡ true
IsOn nodes (Tell node words) = node < length nodes

-- an entry of a block from one sample up to another: a message only at the first
pub record IsCarried (nodes : List Node) (at past : ℕ) (entry : Entry) : Type 0 where
  pub from : at ≤ entry.sample
  pub within : entry.sample < past
  pub message : (t : ℕ) → message_sample entry.sample entry.command ≡ Some t → t ≡ at
  pub on : IsOn nodes entry.command

pub record AreCarried (nodes : List Node) (at past : ℕ) (entries : List Entry) : Type 0 where
  pub rising : (i j : ℕ) (d : Entry) → i < j → j < length entries → (slice_index_or entries i d).sample ≤ (slice_index_or entries j d).sample
  pub each : All (IsCarried nodes at past) entries

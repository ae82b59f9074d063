-- What the lines and the entries of a journal say.
use Rattle.std.specs.Prelude.{ℕ, List, map}
use Rattle.vh_journal.specs.declared.entry.Entry.{Entry}
use Rattle.vh_journal.specs.declared.entry.Journal.{Journal}
use Rattle.vh_params.specs.declared.command.Command.{Command}
use Rattle.vh_params.specs.declared.command.Command.TheVariants.{Begin, Perform, End, Tell}
use Rattle.vh_params.specs.Short.{words_in}

-- what an editor does at a node
pub data Act : Type 0 where
  -- id
  Begins : ℕ → Act
  -- id, value
  Performs : ℕ → ℕ → Act
  -- id
  Ends : ℕ → Act
  -- numbers
  Tells : List ℕ → Act

-- a line of an entry, with its node's name
pub record Line : Type 0 where
  pub sample : ℕ
  pub editor : ℕ
  pub seq : ℕ
  pub name : List ℕ
  pub act : Act

-- an entry, with its node's number
pub record Item : Type 0 where
  pub sample : ℕ
  pub editor : ℕ
  pub seq : ℕ
  pub node : ℕ
  pub act : Act

-- what a line says
pub data Said : Type 0 where
  Close : Said
  Entered : Line → Said

-- what a command does, and at which node

abbrev pub act_of : Command → Act
act_of (Begin node id) = Begins id
act_of (Perform node id value) = Performs id value
act_of (End node id) = Ends id
act_of (Tell node words) = Tells (words_in words)

abbrev pub node_of : Command → ℕ
node_of (Begin node id) = node
node_of (Perform node id value) = node
node_of (End node id) = node
node_of (Tell node words) = node

abbrev pub item_of : Entry → Item
item_of entry = record { sample = entry.sample; editor = entry.editor; seq = entry.seq; node = node_of entry.command; act = act_of entry.command }

abbrev pub items_of : List Entry → List Item
items_of entries = map item_of entries

-- what a journal says
abbrev pub items_in : Journal → List Item
items_in journal = items_of journal.entries.items

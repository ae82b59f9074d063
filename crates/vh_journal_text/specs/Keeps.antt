-- Which entries are a journal under a session's nodes and length.
use Rattle.std.specs.Prelude.{◌≡◌, ℕ, ◌<◌, ◌≤◌, ◌^◌, Bool, true, false, List, length, take, slice_index_or, All, Option, Some, None}
use Rattle.vh_journal.specs.declared.entry.Entry.{Entry}
use Rattle.vh_params.specs.declared.param.ParamInfo.{ParamInfo}
use Rattle.vh_params.specs.Flags as flags
use Rattle.vh_params.specs.Names.{is_name}
use Rattle.vh_params.specs.Nodes.{Node, info_in, AreApart}
use Rattle.vh_journal_text.specs.Items.{Act, Begins, Performs, Ends, Tells, Item, node_of}
use Rattle.vh_journal_text.specs.Rules.{last_sample, count_of, is_open}

-- nodes with names, of which no two are alike
pub record AreNamed (nodes : List Node) : Type 0 where
  pub names : All (λ node. is_name node.name ≡ true) nodes
  pub apart : AreApart nodes

-- a parameter that is there and can be set
abbrev pub is_writable : Option ParamInfo → Bool
is_writable None = false
is_writable (Some param) = flags.is_writable param.flags

pub record IsSettable (nodes : List Node) (node id : ℕ) : Type 0 where
  pub number : id < 2 ^ 32
  pub writable : is_writable (info_in nodes node id) ≡ true

-- an act of this editor may stand behind these entries: a gesture begins where it has none open on the parameter, and
-- values are performed and the gesture ends where it has one
abbrev pub MayStand : List Node → List Item → ℕ → ℕ → Act → Type 0
MayStand nodes before editor node (Begins id) = IsSettable nodes node id × (is_open before editor node id ≡ false)
MayStand nodes before editor node (Performs id value) = IsSettable nodes node id × (is_open before editor node id ≡ true) × (value ≤ 2 ^ 24)
MayStand nodes before editor node (Ends id) = IsSettable nodes node id × (is_open before editor node id ≡ true)
MayStand nodes before editor node (Tells numbers) = (length numbers ≤ 4) × All (λ n. n < 2 ^ 32) numbers

-- an entry may stand behind these
pub record IsBehind (nodes : List Node) (most : ℕ) (before : List Item) (item : Item) : Type 0 where
  pub few : length before < 4096
  pub within : item.sample ≤ most
  pub rising : last_sample before ≤ item.sample
  pub editor : item.editor < 8
  pub turn : item.seq ≡ count_of before item.editor
  pub node : item.node < length nodes
  pub act : MayStand nodes before item.editor item.node item.act

-- a journal: each entry may stand behind those before it
abbrev pub AreEntries : List Node → ℕ → List Item → Type 0
AreEntries nodes most items = (i : ℕ) (d : Item) → i < length items → IsBehind nodes most (take i items) (slice_index_or items i d)

-- the nodes of these entries are there
abbrev pub AreThere : List Node → List Entry → Type 0
AreThere nodes entries = All (λ entry. node_of entry.command < length nodes) entries

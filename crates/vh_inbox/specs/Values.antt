-- What callers see of desks and of the drain.
use Rattle.std.specs.Prelude.{◌≡◌, ℕ, ◌+◌, ◌-◌, ◌^◌, ◌<◌, ◌≤◌, min, List, [], ◌∷◌, ◌++◌, length, slice_index, slice_index_or, Some, None}
use Rattle.crossbeam_queue.specs.Fifo.{Held}
pub use Rattle.atomic_table.specs.Seated.{TableId}
use Rattle.vh_params.specs.Nodes.{Node}
use Rattle.vh_params.specs.declared.command.Command.{Command}
use Rattle.vh_params.specs.declared.command.Word.{Word}
use Rattle.vh_params.specs.declared.command.Word.TheVariants.{Edit, Hold, Unhold, Wait}
use Rattle.vh_gesture.specs.Scripts.{commands}
use Rattle.vh_gesture.specs.Tables.{Table, fault_at, after, fresh}
use Rattle.vh_journal.specs.declared.entry.Entry.{Entry}
use Rattle.vh_inbox.specs.declared.rule.Item.{Item}
use Rattle.vh_inbox.specs.declared.rule.DeskList.{DeskList}
use Rattle.vh_inbox.specs.declared.desk.DeskRefused.{DeskRefused}
use Rattle.vh_inbox.specs.declared.desk.DeskRefused.TheVariants.{Gesture, Full}
use Rattle.vh_inbox.specs.Lists.{of, numbered}
use Rattle.vh_inbox.specs.Facts.{IsWithin}

-- a desk: which inbox it is of and the inbox's capacity and quotas, its number, what it put, oldest first, how
-- many words were refused, and the table of its gestures
pub record AtDesk : Type 0 where
  pub inbox : TableId
  pub capacity : ℕ
  pub quotas : List ℕ
  pub number : ℕ
  pub list : List Command
  pub refused : ℕ
  pub table : Table

-- the drain: what it took, oldest first, and the lists of the desks that were gathered
pub record AtDrain : Type 0 where
  pub inbox : TableId
  pub capacity : ℕ
  pub quotas : List ℕ
  pub taken : List Item
  pub lists : List DeskList

abbrev pub new_desk : TableId → ℕ → List ℕ → List Node → ℕ → AtDesk
new_desk inbox capacity quotas nodes number =
    record { inbox = inbox; capacity = capacity; quotas = quotas; number = number; list = []; refused = 0; table = fresh nodes }

abbrev pub new_drain : TableId → ℕ → List ℕ → AtDrain
new_drain inbox capacity quotas = record { inbox = inbox; capacity = capacity; quotas = quotas; taken = []; lists = [] }

-- a command may be put: the desk put fewer than its quota
abbrev pub HasRoom : AtDesk → Word → Type 0
HasRoom desk (Edit command) = length desk.list < slice_index desk.quotas desk.number
HasRoom desk (Hold node) = Unit {0}
HasRoom desk (Unhold node) = Unit {0}
HasRoom desk (Wait block) = Unit {0}

-- the desk after an accepted word: a command goes to the end of its list
abbrev pub performed : AtDesk → Word → AtDesk
performed desk word = record desk { list = desk.list ++ commands (word ∷ []); table = after desk.table word }

-- at one moment the queue was full, of the desk's own commands and of others, which have their quotas
abbrev pub WasFull : AtDesk → Type 0
WasFull desk = Held {T = Item} desk.capacity (IsWithin desk.quotas desk.number desk.list)

abbrev pub refused_once_more : AtDesk → AtDesk
refused_once_more desk = record desk { refused = min (desk.refused + 1) (2 ^ 32 - 1) }

-- why a word is refused, and what the desk is then
abbrev pub IsRefused : List Node → AtDesk → Word → AtDesk → DeskRefused → Type 0
IsRefused nodes desk word new (Gesture fault) = (fault_at nodes desk.table word ≡ Some fault) × (new ≡ refused_once_more desk)
IsRefused nodes desk word new Full = (fault_at nodes desk.table word ≡ None) × (new ≡ desk) × WasFull desk

abbrev pub entry_at : ℕ → Item → Entry
entry_at sample taken = record { sample = sample; editor = taken.editor; seq = taken.seq; command = taken.command }

abbrev pub item_of : Entry → Item
item_of entry = record { editor = entry.editor; seq = entry.seq; command = entry.command }

-- samples never fall, and none is past `at`
pub record IsUpTo (at : ℕ) (entries : List Entry) : Type 0 where
  pub never_fall : (i j : ℕ) (d : Entry) → i ≤ j → j < length entries → (slice_index_or entries i d).sample ≤ (slice_index_or entries j d).sample
  pub most : (i : ℕ) (d : Entry) → i < length entries → (slice_index_or entries i d).sample ≤ at

-- every desk was gathered
abbrev pub HasAll : AtDrain → Type 0
HasAll drain = length drain.lists ≡ length drain.quotas

-- what was taken of a desk begins its list, or is the whole list, each command once, in order and at its place
abbrev pub Begins : List Item → DeskList → Type 0
Begins taken list = (rest : List Item) × (of list.number taken ++ rest ≡ numbered list.number 0 list.sent)

abbrev pub Are : List Item → DeskList → Type 0
Are taken list = of list.number taken ≡ numbered list.number 0 list.sent

-- What a pass learns of what the queue holds.
use Rattle.std.specs.Prelude.{◌≡◌, ℕ, ◌+◌, ◌<◌, ◌≤◌, List, ◌++◌, length, sum, slice_index}
use Rattle.std.specs.List.{AllByRecursion}
use Rattle.vh_params.specs.declared.command.Command.{Command}
use Rattle.vh_inbox.specs.declared.rule.Item.{Item}
use Rattle.vh_inbox.specs.declared.rule.DeskList.{DeskList}
use Rattle.vh_inbox.specs.declared.rule.View.{View}
use Rattle.vh_inbox.specs.Lists.{total, of, numbered, first_number, first_sent}

-- beyond its own commands a desk finds the items of the other desks, no more than their quotas
abbrev pub IsWithin : List ℕ → ℕ → List Command → List Item → Type 0
IsWithin quotas number sent items = length items + slice_index quotas number ≤ length sent + sum quotas

abbrev pub IsWithinQuotas : View → List Item → Type 0
IsWithinQuotas v items = IsWithin v.quotas (first_number v.lists) (first_sent v.lists) items

abbrev pub sent_in : List DeskList → ℕ
sent_in lists = total (λ list. length list.sent) lists

-- each item is of one of so many desks
abbrev pub AreOfDesks : ℕ → List Item → Type 0
AreOfDesks count items = AllByRecursion (λ i. i.editor < count) items

-- of each list that the drain has, what was taken and what is on its way are the list; where it has all lists,
-- nothing else is; and what was taken is the desks'
pub record HasLists (v : View) (items : List Item) : Type 0 where
  pub each : AllByRecursion (λ list. of list.number (v.taken ++ items) ≡ numbered list.number 0 list.sent) v.lists
  pub all : length v.lists ≡ length v.quotas → length v.taken + length items ≡ sent_in v.lists
  pub editors : AreOfDesks (length v.quotas) v.taken

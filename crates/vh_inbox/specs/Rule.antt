-- The rule of the queue: what the passes know of what was taken and of what the queue holds.
use Rattle.std.specs.Prelude.{◌≡◌, ℕ, ◌<◌, ◌≤◌, Bool, true, false, List, [], ◌∷◌, ◌++◌, length, slice_index}
use Rattle.std.specs.List.{AllByRecursion}
use mathlib.Core.Option.{some}
use lib.ListN.{get_elem?}
use Rattle.vh_params.specs.declared.command.Command.{Command}
use Rattle.vh_inbox.specs.declared.rule.Item.{Item}
use Rattle.vh_inbox.specs.declared.rule.DeskList.{DeskList}
use Rattle.vh_inbox.specs.declared.rule.View.{View}
use Rattle.vh_inbox.specs.Lists.{total, below, of, numbered, desk_list}

abbrev pub pass_view : List ℕ → Bool → List Item → List DeskList → View
pass_view quotas drains taken lists = record { quotas = quotas; drains = drains; taken = taken; lists = lists }

abbrev pub desk_view : List ℕ → ℕ → List Command → View
desk_view quotas number sent = pass_view quotas false [] (desk_list number sent ∷ [])

abbrev pub drain_view : List ℕ → List Item → List DeskList → View
drain_view quotas taken lists = pass_view quotas true taken lists

-- a pass that was joined to another, or has nothing yet
abbrev pub spent : View
spent = pass_view [] false [] []

-- a desk's list is what the log has of the desk, each item at its place, and no longer than the desk's quota
pub record Knows (quotas : List ℕ) (log : List Item) (own : List ℕ) (list : DeskList) : Type 0 where
  pub same : own ≡ quotas
  pub number : list.number < length quotas
  pub quota : length list.sent ≤ slice_index quotas list.number
  pub items : of list.number log ≡ numbered list.number 0 list.sent

-- one pass at most takes, and it knows what was taken; each list that stands in a view is the log's
pub record Fits (quotas : List ℕ) (taken log : List Item) (reader port : ℕ) (v : View) : Type 0 where
  pub reads : v.drains ≡ true → port ≡ reader
  pub took : v.drains ≡ true → v.taken ≡ taken
  pub shares : v.drains ≡ true → v.quotas ≡ quotas
  pub lists : AllByRecursion (Knows quotas log v.quotas) v.lists

-- the log is what was taken and then what the queue holds. Each item is a desk's, and each desk's list stands in
-- one view: weighed by any h, the lists of all views are the numbers of all desks
pub record Kept (items : List Item) (views : List View) : Type 0 where
  pub quotas : List ℕ
  pub reader : ℕ
  pub taken : List Item
  pub editors : AllByRecursion (λ i. i.editor < length quotas) (taken ++ items)
  pub once : (h : ℕ → ℕ) → total (λ v. total (λ list. h list.number) v.lists) views ≡ below h (length quotas)
  pub fits : (port : ℕ) (v : View) → get_elem? views port ≡ some v → Fits quotas taken (taken ++ items) reader port v

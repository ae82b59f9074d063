-- What a pass learns of the queue, as callers see it.
use Rattle.std.proofs.Common.{◌≡◌, ℕ, zero, suc, ◌<◌, ◌≤◌, ◌==◌, List, [], ◌∷◌, ◌++◌, length, map, sum, refl, sym, ap, ◌∙◌, append-nil, subst, arith}
use Rattle.std.specs.List.{AllByRecursion}
use Rattle.std.specs.Prelude.{slice_index, All, Option, Some, None, MatchOption, IfNone}
use Rattle.std.proofs.lemmas.List.Elements.{filter-append}
use Rattle.crossbeam_queue.specs.Fifo.{Held}
use Rattle.vh_inbox.specs.declared.rule.Item.{Item}
use Rattle.vh_inbox.specs.declared.rule.DeskList.{DeskList}
use Rattle.vh_inbox.specs.declared.rule.View.{View}
use Rattle.vh_inbox.specs.Lists.{of, numbered}
use Rattle.vh_journal.specs.declared.entry.Entry.{Entry}
use Rattle.vh_inbox.specs.Facts.{AreOfDesks, HasLists, sent_in}
use Rattle.vh_inbox.specs.Values.{TableId, AtDesk, AtDrain, WasFull, Begins, Are, item_of}
use Rattle.vh_inbox.proofs.Callers.{at_drain}
use Rattle.vh_inbox.proofs.Places.{each_map}

nothing : (items : List Item) → length items ≡ 0 → items ≡ []
nothing [] none = refl
nothing (x ∷ xs) none = absurd (omega arith)

-- where nothing is on its way, what was taken is all
pub are_all : (v : View) (items : List Item) → length items ≡ 0 → AllByRecursion (λ list. of list.number (v.taken ++ items) ≡ numbered list.number 0 list.sent) v.lists → AllByRecursion (Are v.taken) v.lists
are_all v items none each =
    each_map (λ (list : DeskList). of list.number (v.taken ++ items) ≡ numbered list.number 0 list.sent) (Are v.taken)
    (λ list known. ap (of list.number) (sym (ap (λ (xs : List Item). v.taken ++ xs) (nothing items none) ∙ append-nil v.taken)) ∙ known) v.lists each

pub all_at_empty : (v : View) → Held {T = Item} 0 (HasLists v) → AllByRecursion (Are v.taken) v.lists
all_at_empty v held = are_all v held.0 held.1 held.2.each

-- what the drain sees where a pop found nothing
pub none_taken : (popped : Option Item) (Took : Item → Type 0) (inbox inbox' : TableId) (capacity : ℕ) (v w : View) (drain : AtDrain) → inbox' ≡ inbox → at_drain inbox capacity v ≡ drain
    → MatchOption popped ((w ≡ v) × Held {T = Item} 0 (HasLists v)) Took → IfNone popped ((at_drain inbox' capacity w ≡ drain) × AllByRecursion (Are drain.taken) drain.lists × AreOfDesks (length drain.quotas) drain.taken)
none_taken (Some x) Took inbox inbox' capacity v w drain same is found = tt
none_taken None Took inbox inbox' capacity v w drain same is found = (
  (λ i. at_drain (same i) capacity (found.0 i)) ∙ is,
  subst (λ (d : AtDrain). AllByRecursion (Are d.taken) d.lists) is (all_at_empty v found.1),
  subst (λ (d : AtDrain). AreOfDesks (length d.quotas) d.taken) is found.1.2.editors,
)

-- and else it begins each list
pub begins_lists : (v : View) (items : List Item) → HasLists v items → AllByRecursion (Begins v.taken) v.lists
begins_lists v items has =
    each_map (λ (list : DeskList). of list.number (v.taken ++ items) ≡ numbered list.number 0 list.sent) (Begins v.taken)
    (λ list known. (of list.number items, sym (filter-append (λ (i : Item). i.editor == list.number) v.taken items) ∙ known)) v.lists has.each

-- where as many were taken as the lists have, nothing is on its way
pub all_where_enough : (v : View) (items : List Item) → HasLists v items → length v.lists ≡ length v.quotas → sent_in v.lists ≤ length v.taken → AllByRecursion (Are v.taken) v.lists
all_where_enough v items has gathered enough = are_all v items (omega (arith, has.all gathered)) has.each

pub are_begins : (taken : List Item) (lists : List DeskList) → AllByRecursion (Are taken) lists → AllByRecursion (Begins taken) lists
are_begins taken lists each = each_map (Are taken) (Begins taken) (λ list known. ([], append-nil (of list.number taken) ∙ known)) lists each

-- where the queue has room for all quotas, it isn't full before a desk used its own
pub never_full : (desk : AtDesk) → length desk.list < slice_index desk.quotas desk.number → sum desk.quotas ≤ desk.capacity → WasFull desk → ⊥
never_full desk room fits full = absurd (omega (arith, full.1, full.2))

-- entries whose items are the desks'
are_of_desks : (count : ℕ) (entries : List Entry) → AreOfDesks count (map item_of entries) → All (λ entry. entry.editor < count) entries
are_of_desks count [] each k d below = absurd (omega (arith, below))
are_of_desks count (entry ∷ entries) each zero d below = each.0
are_of_desks count (entry ∷ entries) each (suc k) d below = are_of_desks count entries each.1 k d (omega (arith, below))

pub entries_of_desks : (drain now : AtDrain) (entries : List Entry) → now ≡ record drain { taken = map item_of entries } → AreOfDesks (length now.quotas) now.taken → All (λ entry. entry.editor < length drain.quotas) entries
entries_of_desks drain now entries is each = are_of_desks (length drain.quotas) entries (subst (λ (d : AtDrain). AreOfDesks (length d.quotas) d.taken) is each)

-- What callers see of a desk and of the drain after a step.
use Rattle.std.proofs.Common.{◌≡◌, ℕ, List, [], ◌∷◌, ◌++◌, ap, ◌∙◌}
use Rattle.vh_params.specs.declared.command.Command.{Command}
use Rattle.vh_gesture.specs.Tables.{Table}
use Rattle.vh_inbox.specs.declared.rule.Item.{Item}
use Rattle.vh_inbox.specs.declared.rule.View.{View}
use Rattle.vh_inbox.specs.Lists.{desk_list, first_sent, put_first}
use Rattle.vh_inbox.specs.Rule.{pass_view, desk_view}
use Rattle.vh_inbox.specs.Values.{TableId, AtDesk, AtDrain}

abbrev pub at_desk : TableId → ℕ → ℕ → ℕ → Table → View → AtDesk
at_desk inbox capacity number refused table v =
    record { inbox = inbox; capacity = capacity; quotas = v.quotas; number = number; list = first_sent v.lists; refused = refused; table = table }

abbrev pub at_drain : TableId → ℕ → View → AtDrain
at_drain inbox capacity v = record { inbox = inbox; capacity = capacity; quotas = v.quotas; taken = v.taken; lists = v.lists }

pub desk_put : (inbox inbox' : TableId) (capacity number refused : ℕ) (table : Table) (v w : View) (c : Command) → inbox' ≡ inbox → v ≡ desk_view v.quotas number (first_sent v.lists)
    → w ≡ pass_view v.quotas v.drains v.taken (put_first c v.lists)
    → at_desk inbox' capacity number refused table w ≡ record (at_desk inbox capacity number refused table v) { list = first_sent v.lists ++ c ∷ [] }
desk_put inbox inbox' capacity number refused table v w c same knows is = λ i. at_desk (same i) capacity number refused table (now i)
  where
    now : w ≡ desk_view v.quotas number (first_sent v.lists ++ c ∷ [])
    now = is ∙ ap (λ (u : View). pass_view u.quotas u.drains u.taken (put_first c u.lists)) knows

pub drain_took : (inbox inbox' : TableId) (capacity : ℕ) (v w : View) (x : Item) → inbox' ≡ inbox → w ≡ pass_view v.quotas v.drains (v.taken ++ x ∷ []) v.lists
    → at_drain inbox' capacity w ≡ record (at_drain inbox capacity v) { taken = v.taken ++ x ∷ [] }
drain_took inbox inbox' capacity v w x same is = λ i. at_drain (same i) capacity (is i)

pub drain_gathered : (inbox inbox' : TableId) (capacity : ℕ) (v w u : View) (quotas : List ℕ) (d : ℕ) (sent : List Command) → inbox' ≡ inbox → w ≡ desk_view quotas d sent
    → u ≡ pass_view v.quotas v.drains v.taken (v.lists ++ w.lists) → at_drain inbox' capacity u ≡ record (at_drain inbox capacity v) { lists = v.lists ++ desk_list d sent ∷ [] }
drain_gathered inbox inbox' capacity v w u quotas d sent same theirs is = λ i. at_drain (same i) capacity (now i)
  where
    now : u ≡ pass_view v.quotas v.drains v.taken (v.lists ++ desk_list d sent ∷ [])
    now = is ∙ ap (λ (x : View). pass_view v.quotas v.drains v.taken (v.lists ++ x.lists)) theirs

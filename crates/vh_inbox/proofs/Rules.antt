-- What a call asks, of a view as the desk or the drain keeps it.
use Rattle.std.proofs.Common.{◌≡◌, ℕ, ◌<◌, Bool, true, false, List, [], ◌∷◌, ◌++◌, length, take, drop, sym, subst, arith}
use Rattle.std.specs.Prelude.{slice_index}
use Rattle.crossbeam_queue.specs.Fifo.{Pushes, Pops, Forks, Learns}
use Rattle.vh_params.specs.declared.command.Command.{Command}
use Rattle.vh_inbox.specs.declared.rule.Item.{Item}
use Rattle.vh_inbox.specs.declared.rule.DeskList.{DeskList}
use Rattle.vh_inbox.specs.declared.rule.View.{View}
use Rattle.vh_inbox.specs.Lists.{item, empty_lists, first_sent, put_first}
use Rattle.vh_inbox.specs.Rule.{pass_view, desk_view, drain_view, spent, Kept}
use Rattle.vh_inbox.specs.Facts.{IsWithinQuotas, HasLists}
use Rattle.vh_inbox.proofs.Steps.{pushes, pops, forks, opens, learns_room, learns_lists}

pub put_rule : (n port : ℕ) (v : View) (d next : ℕ) (c : Command) → v ≡ desk_view v.quotas d (first_sent v.lists) → next ≡ length (first_sent v.lists) → length (first_sent v.lists) < slice_index v.quotas d
    → Pushes Kept n port v (item d next c) (λ w. w ≡ pass_view v.quotas v.drains v.taken (put_first c v.lists)) × Learns Kept port v (IsWithinQuotas v)
put_rule n port v d next c knows place room =
    let sent : List Command = first_sent v.lists in
    let P : View → Type 0 = λ u. Pushes Kept n port u (item d (length sent) c) (λ w. w ≡ pass_view u.quotas u.drains u.taken (put_first c u.lists)) × Learns Kept port u (IsWithinQuotas u) in
    let asked : P v = subst P (sym knows) (pushes n port v.quotas d sent c room, learns_room port v.quotas d sent) in
    subst (λ (k : ℕ). Pushes Kept n port v (item d k c) (λ w. w ≡ pass_view v.quotas v.drains v.taken (put_first c v.lists)) × Learns Kept port v (IsWithinQuotas v)) (sym place) asked

pub take_rule : (port : ℕ) (v : View) → v.drains ≡ true → Pops Kept port v (λ x w. w ≡ pass_view v.quotas v.drains (v.taken ++ x ∷ []) v.lists) × Learns Kept port v (HasLists v)
take_rule port v drains = (pops port v drains, learns_lists port v drains)

hand : (port : ℕ) (own : List ℕ) (drains : Bool) (taken : List Item) (lists : List DeskList) → 0 < length lists
    → Forks Kept port (pass_view own drains taken lists) (pass_view own drains taken (drop 1 lists)) (pass_view own false [] (take 1 lists))
hand port own drains taken [] some_list = absurd (omega arith)
hand port own drains taken (list ∷ lists) some_list = forks port own drains taken list lists

pub hand_rule : (port : ℕ) (v : View) → 0 < length v.lists → Forks Kept port v (pass_view v.quotas v.drains v.taken (drop 1 v.lists)) (pass_view v.quotas false [] (take 1 v.lists))
hand_rule port v some_list = hand port v.quotas v.drains v.taken v.lists some_list

pub open_rule : (port : ℕ) (v : View) (q : List ℕ) → v ≡ drain_view [] [] [] → Forks Kept port v (drain_view q [] (empty_lists 0 (length q))) spent
open_rule port v q first = subst (λ (u : View). Forks Kept port u (drain_view q [] (empty_lists 0 (length q))) spent) (sym first) (opens port q)

-- The views of a desk and of the drain after a step.
use Rattle.std.proofs.Common.{◌≡◌, ℕ, zero, suc, ◌+◌, ◌-◌, ◌<◌, false, List, [], ◌∷◌, ◌++◌, length, take, drop, refl, sym, ap, ◌∙◌, subst, arith}
use Rattle.vh_params.specs.declared.command.Command.{Command}
use Rattle.vh_inbox.specs.declared.rule.DeskList.{DeskList}
use Rattle.vh_inbox.specs.declared.rule.View.{View}
use Rattle.vh_inbox.specs.Lists.{desk_list, empty_lists, first_number, first_sent, put_first}
use Rattle.vh_inbox.specs.Rule.{pass_view, desk_view, drain_view}

-- the desk's view after a put
pub record HasPut (v w : View) (d : ℕ) (c : Command) : Type 0 where
  pub knows : w ≡ desk_view w.quotas d (first_sent w.lists)
  pub sent : first_sent w.lists ≡ first_sent v.lists ++ c ∷ []
  pub quotas : w.quotas ≡ v.quotas

pub has_put : (v w : View) (d : ℕ) (c : Command) → v ≡ desk_view v.quotas d (first_sent v.lists) → w ≡ pass_view v.quotas v.drains v.taken (put_first c v.lists) → HasPut v w d c
has_put v w d c knows is = record {
  knows = subst (λ (u : View). u ≡ desk_view u.quotas d (first_sent u.lists)) (sym now) refl;
  sent = ap (λ (u : View). first_sent u.lists) now;
  quotas = ap (λ (u : View). u.quotas) now;
}
  where
    now : w ≡ desk_view v.quotas d (first_sent v.lists ++ c ∷ [])
    now = is ∙ ap (λ (u : View). pass_view u.quotas u.drains u.taken (put_first c u.lists)) knows

one_list : (lists : List DeskList) (d : ℕ) → first_number lists ≡ d → first_sent lists ≡ [] → 0 < length lists → take 1 lists ≡ desk_list d [] ∷ []
one_list [] d number none some_list = absurd (omega arith)
one_list (list ∷ lists) d number none some_list = λ i. desk_list (number i) (none i) ∷ []

-- the view of a desk that is new
pub record IsNewView (v w : View) (d : ℕ) : Type 0 where
  pub knows : w ≡ desk_view w.quotas d (first_sent w.lists)
  pub sent : first_sent w.lists ≡ []
  pub quotas : w.quotas ≡ v.quotas

pub new_view : (v w : View) (d : ℕ) → w ≡ pass_view v.quotas false [] (take 1 v.lists) → first_number v.lists ≡ d → first_sent v.lists ≡ [] → 0 < length v.lists → IsNewView v w d
new_view v w d is number none some_list = record {
  knows = subst (λ (u : View). u ≡ desk_view u.quotas d (first_sent u.lists)) (sym now) refl;
  sent = ap (λ (u : View). first_sent u.lists) now;
  quotas = ap (λ (u : View). u.quotas) now;
}
  where
    now : w ≡ desk_view v.quotas d []
    now = is ∙ ap (λ (lists : List DeskList). pass_view v.quotas false [] lists) (one_list v.lists d number none some_list)

-- what is left once n desks of a number on were made, and one more is
pub record HasNext (k n : ℕ) (lists : List DeskList) : Type 0 where
  pub number : first_number lists ≡ k
  pub sent : first_sent lists ≡ []
  pub one_more : 0 < length lists
  pub rest : drop 1 lists ≡ empty_lists (k + 1) (n - 1)

pub has_next : (k n : ℕ) → 0 < n → HasNext k n (empty_lists k n)
has_next k zero more = absurd (omega arith)
has_next k (suc n) more = record { number = refl; sent = refl; one_more = omega arith; rest = same (k + 1) n (suc n - 1) (suc k) (omega arith) (omega arith) }
  where
    same : (a b c d : ℕ) → c ≡ b → a ≡ d → empty_lists d b ≡ empty_lists a c
    same a b c d left right = λ i. empty_lists (sym right i) (sym left i)

-- the maker's view once it handed out the list of this number
pub has_handed : (quotas : List ℕ) (k n : ℕ) (v w : View) → k < n → v ≡ drain_view quotas [] (empty_lists k (n - k)) → w ≡ record v { lists = drop 1 v.lists } → w ≡ drain_view quotas [] (empty_lists (k + 1) (n - (k + 1)))
has_handed quotas k n v w more was is =
    is ∙ ap (λ (u : View). record u { lists = drop 1 u.lists }) was
    ∙ ap (λ (lists : List DeskList). drain_view quotas [] lists) ((has_next k (n - k) (omega arith)).rest ∙ ap (empty_lists (k + 1)) one_less)
  where
    one_less : n - k - 1 ≡ n - (k + 1)
    one_less = omega arith

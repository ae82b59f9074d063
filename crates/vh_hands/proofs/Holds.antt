-- An editor makes at most 64 holds of a node.
use Rattle.std.proofs.Common.{◌≡◌, ℕ, suc, ◌+◌, ◌<◌, ◌≤◌, Bool, true, false, not, ◌==◌, nat_lt, cond, List, [], ◌∷◌, ◌++◌, length, if◌then◌else◌, is_none, refl, sym, ap, ◌∙◌, subst, arith, append-nil, append_assoc}
use Rattle.std.specs.List.{filter}
use Rattle.std.proofs.lemmas.Bool.{and_parts, eqb-true, leb-true, true≢false}
use Rattle.vh_params.specs.Nodes.{Node}
use Rattle.vh_params.specs.declared.command.Word.{Word}
use Rattle.vh_params.specs.declared.command.Word.TheVariants.{Edit, Hold, Unhold, Wait}
use Rattle.vh_gesture.specs.declared.fault.GestureFault.TheVariants.{NoReference, TooManyHolds}
use Rattle.vh_gesture.specs.Scripts.{is_hold, is_wait, count, counts_after, is_accepted, accepted_behind}
use Rattle.vh_gesture.specs.Rules.{first_fault, fault}
use Rattle.vh_hands.specs.Hands.{at_script_end}

count-push : (is : Word → Bool) (words : List Word) (word : Word) → count is (words ++ word ∷ []) ≡ count is words + (if is word then 1 else 0)
count-push is [] word = by_cases (is word)
  where
    by_cases : (b : Bool) → length (cond b (word ∷ []) []) ≡ 0 + (if b then 1 else 0)
    by_cases true = refl
    by_cases false = refl
count-push is (first ∷ words) word = by_cases (is first) (count-push is words word)
  where
    by_cases : (b : Bool) → count is (words ++ word ∷ []) ≡ count is words + (if is word then 1 else 0)
        → length (cond b (first ∷ filter is (words ++ word ∷ [])) (filter is (words ++ word ∷ []))) ≡ length (cond b (first ∷ filter is words) (filter is words)) + (if is word then 1 else 0)
    by_cases true h = omega arith
    by_cases false h = h

-- a hold that is accepted is one of at most 64
judged_within : (none few : Bool) → is_none (first_fault ((none, NoReference) ∷ (not few, TooManyHolds) ∷ [])) ≡ true → few ≡ true
judged_within true few so = absurd (true≢false (sym so))
judged_within false true so = refl
judged_within false false so = absurd (true≢false (sym so))

lt_of : (a b : ℕ) → nat_lt a b ≡ true → a < b
lt_of a b so = let le = leb-true (suc a) b so in omega (arith, le)

one_within : (nodes : List Node) (before : List Word) (word : Word) (node : ℕ) → is_accepted nodes before word ≡ true → count (is_hold node) before ≤ 64 → count (is_hold node) (before ++ word ∷ []) ≤ 64
one_within nodes before (Hold other) node so within =
    let fits = judged_within ((counts_after before).held other == 0) (nat_lt ((counts_after before).holds other) 64) (and_parts (not (is_wait (Hold other))) (is_none (fault nodes (counts_after before) (Hold other))) so).1 in
    let few : count (is_hold other) before < 64 = lt_of (count (is_hold other) before) 64 fits in
    let pushed = count-push (is_hold node) before (Hold other) in
    elim (other == node) as (λ t. (other == node) ≡ t → count (is_hold node) (before ++ Hold other ∷ []) ≤ 64) [
      | true ↦ λ same.
          let here : count (is_hold node) before < 64 = subst (λ (n : ℕ). count (is_hold n) before < 64) (eqb-true other node same) few in
          let more : count (is_hold node) (before ++ Hold other ∷ []) ≡ count (is_hold node) before + 1 = pushed ∙ ap (λ (b : Bool). count (is_hold node) before + (if b then 1 else 0)) same in
          omega (arith, more, here)
      | false ↦ λ apart.
          let more : count (is_hold node) (before ++ Hold other ∷ []) ≡ count (is_hold node) before + 0 = pushed ∙ ap (λ (b : Bool). count (is_hold node) before + (if b then 1 else 0)) apart in
          omega (arith, more, within)
    ] refl
one_within nodes before (Edit command) node so within = let pushed = count-push (is_hold node) before (Edit command) in omega (arith, pushed, within)
one_within nodes before (Unhold other) node so within = let pushed = count-push (is_hold node) before (Unhold other) in omega (arith, pushed, within)
one_within nodes before (Wait block) node so within = let pushed = count-push (is_hold node) before (Wait block) in omega (arith, pushed, within)

all_within : (nodes : List Node) (before words : List Word) (node : ℕ) → count (is_hold node) before ≤ 64 → count (is_hold node) (before ++ accepted_behind nodes before words) ≤ 64
all_within nodes before [] node within = subst (λ (words : List Word). count (is_hold node) words ≤ 64) (sym (append-nil before)) within
all_within nodes before (word ∷ words) node within =
    elim (is_accepted nodes before word) as (λ t. is_accepted nodes before word ≡ t → count (is_hold node) (before ++ cond t (word ∷ accepted_behind nodes (before ++ word ∷ []) words) (accepted_behind nodes before words)) ≤ 64) [
      | true ↦ λ so.
          subst (λ (all : List Word). count (is_hold node) all ≤ 64) (append_assoc before (word ∷ []) (accepted_behind nodes (before ++ word ∷ []) words))
          (all_within nodes (before ++ word ∷ []) words node (one_within nodes before word node so within))
      | false ↦ λ not_so. all_within nodes before words node within
    ] refl

-- the holds of a script, and what is held at its end
pub holds_few : (nodes : List Node) (script : List Word) (node : ℕ) → (at_script_end nodes script).holds node ≤ 64
holds_few nodes script node = all_within nodes [] script node (omega arith)

pub held_few : (nodes : List Node) (script : List Word) (node : ℕ) → (at_script_end nodes script).held node ≤ 1 + (at_script_end nodes script).holds node
held_few nodes script node = omega arith

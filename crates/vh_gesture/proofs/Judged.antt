-- An answer by the rules says which of them is broken first.
use Rattle.std.specs.Prelude.{⊤}
use Rattle.std.proofs.Common.{◌≡◌, Bool, true, false, List, [], ◌∷◌, Result, Err, Some, None, IfErr, if◌then◌else◌, refl, subst, sym}
use Rattle.vh_gesture.specs.declared.fault.GestureFault.{GestureFault}
use Rattle.vh_gesture.specs.Rules.{Rule, first_fault, judged}

first_refused : (rules : List Rule) → IfErr (judged rules) (λ fault. first_fault rules ≡ Some fault)
first_refused [] = tt
first_refused (rule ∷ rules) =
    elim rule.0 as (λ b. IfErr (if b then Err rule.1 else judged rules) (λ fault. (if b then Some rule.1 else first_fault rules) ≡ Some fault)) [ true ↦ refl | false ↦ first_refused rules ]

pub refused : (rules : List Rule) (result : Result ⊤ GestureFault) → result ≡ judged rules → IfErr result (λ fault. first_fault rules ≡ Some fault)
refused rules result is = subst (λ (r : Result ⊤ GestureFault). IfErr r (λ fault. first_fault rules ≡ Some fault)) (sym is) (first_refused rules)

-- the first rule isn't broken, and none of the others
pub passes : (rule : Rule) (rules : List Rule) → first_fault (rule ∷ rules) ≡ None → (rule.0 ≡ false) × (first_fault rules ≡ None)
passes rule rules none = by_cases rule.0 none
  where
    by_cases : (b : Bool) → (if b then Some rule.1 else first_fault rules) ≡ None → (b ≡ false) × (first_fault rules ≡ None)
    by_cases true h = cc
    by_cases false h = (refl, h)

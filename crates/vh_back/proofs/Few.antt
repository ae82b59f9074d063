-- Of few parameters few echoes are kept.
use Rattle.std.proofs.Common.{◌≡◌, ◌≤◌, suc, Bool, true, false, ◌||◌, List, [], ◌∷◌, length, if◌then◌else◌, refl, sym, ap, ◌∙◌, arith}
use Rattle.std.specs.List.{list_any, list_all, AllByRecursion, IsDistinct}
use Rattle.std.proofs.lemmas.Bool.{and_parts, true≢false}
use Rattle.vh_back.specs.declared.item.Parameter.{Parameter}
use Rattle.vh_back.specs.declared.item.Item.{Item}
use Rattle.vh_back.specs.declared.item.Item.TheVariants.{Echo, Reply}
use Rattle.vh_back.specs.Items.{parameter, is_same, is_among, echoed}
use Rattle.vh_back.proofs.Sameness.{same_is, same_back}

abbrev pub has : List Parameter → Parameter → Bool
has parameters one = list_any (is_same one) parameters

-- these parameters without the first that is this one
abbrev without : Parameter → List Parameter → List Parameter
without one [] = []
without one (first ∷ rest) = if is_same one first then rest else first ∷ without one rest

one_less : (one : Parameter) (parameters : List Parameter) → has parameters one ≡ true → length parameters ≡ suc (length (without one parameters))
one_less one [] there = absurd (true≢false (sym there))
one_less one (first ∷ rest) there =
    elim (is_same one first) as (λ t. (t || has rest one) ≡ true → suc (length rest) ≡ suc (length (if t then rest else first ∷ without one rest))) [
      | true ↦ λ here. refl
      | false ↦ λ later. ap suc (one_less one rest later)
    ] there

still_there : (one other : Parameter) (parameters : List Parameter) → is_same one other ≡ false → has parameters other ≡ true → has (without one parameters) other ≡ true
still_there one other [] apart there = there
still_there one other (first ∷ rest) apart there =
    elim (is_same one first) as (λ t. is_same one first ≡ t → has (if t then rest else first ∷ without one rest) other ≡ true) [
      | true ↦ λ is.
          let other_first : is_same other first ≡ false = ap (λ (p : Parameter). is_same other p) (sym (same_is one first is)) ∙ same_back one other apart in
          ap (λ (b : Bool). b || has rest other) (sym other_first) ∙ there
      | false ↦ λ is.
          elim (is_same other first) as (λ t. (t || has rest other) ≡ true → (t || has (without one rest) other) ≡ true) [
            | true ↦ λ here. refl
            | false ↦ λ later. still_there one other rest apart later
          ] there
    ] refl

all_there : (one : Parameter) (others parameters : List Parameter) → AllByRecursion (λ other. is_same one other ≡ false) others → AllByRecursion (λ other. has parameters other ≡ true) others
    → AllByRecursion (λ other. has (without one parameters) other ≡ true) others
all_there one [] parameters apart there = tt
all_there one (other ∷ others) parameters apart there = (still_there one other parameters apart.0 there.0, all_there one others parameters apart.1 there.1)

-- as many different ones at most as there are
pub few : (ones parameters : List Parameter) → IsDistinct is_same ones → AllByRecursion (λ one. has parameters one ≡ true) ones → length ones ≤ length parameters
unfolding IsDistinct
few [] parameters apart there = omega arith
few (one ∷ ones) parameters apart there =
    let less : length parameters ≡ suc (length (without one parameters)) = one_less one parameters there.0 in
    let rest : length ones ≤ length (without one parameters) = few ones (without one parameters) apart.1 (all_there one ones parameters apart.0 there.1) in
    omega arith

pub echoed_among : (parameters : List Parameter) (items : List Item) → list_all (is_among parameters) items ≡ true → AllByRecursion (λ one. has parameters one ≡ true) (echoed items)
echoed_among parameters [] all = tt
echoed_among parameters (Echo node id value after last ∷ items) all =
    let parts = and_parts (has parameters (parameter node id)) (list_all (is_among parameters) items) all in
    (parts.0, echoed_among parameters items parts.1)
echoed_among parameters (Reply reply ∷ items) all = echoed_among parameters items all

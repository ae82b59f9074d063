-- What is true of each element, and of each view.
use Rattle.std.proofs.Common.{◌≡◌, ◌≢◌, ℕ, List, [], ◌∷◌, ◌++◌, set, sym, subst, ⊎_elim}
use Rattle.std.specs.List.{AllByRecursion}
use mathlib.Core.Option.{some}
use lib.ListN.{get_elem?}
use Rattle.crossbeam_queue.proofs.Lists.{at_set, at_snoc}
use Rattle.vh_inbox.specs.declared.rule.View.{View}

pub each_map : {A : Type 0} → (P Q : A → Type 0) → ((a : A) → P a → Q a) → (xs : List A) → AllByRecursion P xs → AllByRecursion Q xs
each_map P Q f [] each = tt
each_map P Q f (x ∷ xs) each = (f x each.0, each_map P Q f xs each.1)

pub each_append : {A : Type 0} → (P : A → Type 0) (xs ys : List A) → AllByRecursion P xs → AllByRecursion P ys → AllByRecursion P (xs ++ ys)
each_append P [] ys each each' = each'
each_append P (x ∷ xs) ys each each' = (each.0, each_append P xs ys each.1 each')

pub each_left : {A : Type 0} → (P : A → Type 0) (xs ys : List A) → AllByRecursion P (xs ++ ys) → AllByRecursion P xs
each_left P [] ys each = tt
each_left P (x ∷ xs) ys each = (each.0, each_left P xs ys each.1)

pub each_both : {A : Type 0} → (P Q R : A → Type 0) → ((a : A) → P a → Q a → R a) → (xs : List A) → AllByRecursion P xs → AllByRecursion Q xs → AllByRecursion R xs
each_both P Q R f [] each each' = tt
each_both P Q R f (x ∷ xs) each each' = (f x each.0 each'.0, each_both P Q R f xs each.1 each'.1)

-- each view at its place
abbrev pub Places : (ℕ → View → Type 0) → List View → Type 0
Places F views = (port : ℕ) (v : View) → get_elem? views port ≡ some v → F port v

pub places_set : (F : ℕ → View → Type 0) (views : List View) (port : ℕ) (w : View) → F port w → ((j : ℕ) (u : View) → j ≢ port → get_elem? views j ≡ some u → F j u) → Places F (set views port w)
places_set F views port w mine others j u at =
    ⊎_elim (λ (here : (j ≡ port) × (w ≡ u)). subst (λ (p : ℕ × View). F p.0 p.1) (λ i. (sym here.0 i, here.1 i)) mine)
    (λ (there : (j ≢ port) × (get_elem? views j ≡ some u)). others j u there.0 there.1) (at_set views port j w u at)

pub places_snoc : (F : ℕ → View → Type 0) (views : List View) (w : View) → Places F views → ((j : ℕ) → F j w) → Places F (views ++ w ∷ [])
places_snoc F views w old new j u at =
    ⊎_elim (λ (there : get_elem? views j ≡ some u). old j u there) (λ (here : w ≡ u). subst (F j) here (new j)) (at_snoc views w u j at)

-- A frame that passes or not.
use Rattle.std.proofs.Common.{◌≡◌, Bool, true, false, if◌then◌else◌, [], ◌∷◌, ℤ, pos, refl}

pub gated : (b : Bool) (x : ℤ) → (if b then x else pos 0) ∷ [] ≡ (if b then x ∷ [] else pos 0 ∷ [])
gated true x = refl
gated false x = refl

pub gated_two : (b : Bool) (x y : ℤ) → (if b then x else pos 0) ∷ (if b then y else pos 0) ∷ [] ≡ (if b then x ∷ y ∷ [] else pos 0 ∷ pos 0 ∷ [])
gated_two true x y = refl
gated_two false x y = refl

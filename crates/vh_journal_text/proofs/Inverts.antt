-- What rules let through passed each of them.
use Rattle.std.proofs.Common.{◌≡◌, Bool, true, false, refl, Ok, Err, Result}
use Rattle.vh_text.specs.Chains.{given, fault_if}
use Rattle.vh_text.proofs.Gives.{no_value}

pub passed : {A K : Type 0} (test : Bool) (kind : K) (said : Result A K) (a : A) → fault_if test kind said ≡ Ok a → (test ≡ false) × (said ≡ Ok a)
passed true kind said a is = absurd (no_value a kind is)
passed false kind said a is = (refl, is)

pub gave : {A B K : Type 0} (said : Result A K) (next : A → Result B K) (b : B) → given said next ≡ Ok b → (a : A) × (said ≡ Ok a) × (next a ≡ Ok b)
gave (Ok a) next b is = (a, refl, is)
gave (Err kind) next b is = absurd (no_value b kind is)

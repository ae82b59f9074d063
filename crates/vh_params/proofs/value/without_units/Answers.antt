use Rattle.std.proofs.Common.{◌≡◌, ◌≢◌, ◌++◌, ◌∷◌, [], ℕ, List, length, false, eqb, sym, ◌∙◌}
use Rattle.vh_params.specs.ValueText.{units_text}
use Rattle.vh_params.proofs.TextValues.{none_then, no_unit, no_space}
use Rattle.vh_params.proofs.value.without_units.Goals as goal

pub returns-in_err-front-clause-none : goal.returns-in_err-front-clause-none
returns-in_err-front-clause-none c =
    let some : eqb (length c.args.units.now) 0 ≡ false = sym c.is_empty.ensures ∙ c.if-is_empty.false in
    rw c.from_residual.ensures (no_unit c.args.text.now c.args.units.now some c.in_err-front.ensures.none)

pub returns-clause-none : goal.returns-clause-none
returns-clause-none c =
    let some : eqb (length c.args.units.now) 0 ≡ false = sym c.is_empty.ensures ∙ c.if-is_empty.false in
    let P : Type 0 = (number : List ℕ) → c.in_ok-front.front.now ≢ number ++ 32 ∷ [] in
    let Q : Type 0 = (number : List ℕ) → c.args.text.now ≢ number ++ units_text c.args.units.now in
    none_then c.without_end-2.result P Q (no_space c.args.text.now c.in_ok-front.front.now c.args.units.now some c.in_ok-front.ensures.some) c.without_end-2.ensures.none

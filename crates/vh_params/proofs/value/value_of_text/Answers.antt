use Rattle.std.proofs.Common.{ℕ, sym, subst}
use Rattle.vh_params.specs.ValueText.{number_text, IsValueIn}
use Rattle.vh_params.proofs.TextValues.{with_units}
use Rattle.vh_params.proofs.value.value_of_text.Goals as goal

pub returns-in-0 : goal.returns-in-0
returns-in-0 c =
    let P : ℕ → Type 0 = λ steps. IsValueIn steps (number_text steps) c.in_ok-number.number.now c.value_of_fraction.result in
    with_units c.args.steps c.args.units.now c.args.text.now c.in_ok-number.number.now c.value_of_fraction.result c.in_ok-number.ensures.some (subst P (sym c.in-0.is) c.value_of_fraction.ensures)

pub returns-in-1 : goal.returns-in-1
returns-in-1 c =
    let P : ℕ → Type 0 = λ steps. IsValueIn steps (number_text steps) c.in_ok-number.number.now c.value_of_switch.result in
    with_units c.args.steps c.args.units.now c.args.text.now c.in_ok-number.number.now c.value_of_switch.result c.in_ok-number.ensures.some (subst P (sym c.in-1.is) c.value_of_switch.ensures)

pub returns-in_default : goal.returns-in_default
returns-in_default c = with_units c.args.steps c.args.units.now c.args.text.now c.in_ok-number.number.now c.value_of_step.result c.in_ok-number.ensures.some c.value_of_step.ensures

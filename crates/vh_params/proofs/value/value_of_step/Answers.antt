use Rattle.std.proofs.Common.{◌≤◌, ℕ, Some, sym, subst, ◌∙◌, arith}
use Rattle.vh_params.specs.ValueText.{number_text, IsValueIn}
use Rattle.vh_params.proofs.TextValues.{step_value, text_same}
use Rattle.vh_params.proofs.value.value_of_step.Goals as goal

pub returns : goal.returns
returns c =
    let same = text_same c.text.result.now c.args.text.now c.ne.result c.ne.ensures c.if-ne.false in
    let within : c.in_ok-step.step ≤ c.args.steps = omega arith in
    let P : ℕ → Type 0 = λ v. IsValueIn c.args.steps (number_text c.args.steps) c.args.text.now (Some v) in
    subst P (sym c.norm.ensures) (step_value c.args.steps c.in_ok-step.step c.args.text.now c.requires.some c.requires.most within (sym c.of_step.ensures ∙ sym c.text.ensures.value ∙ same))

use Rattle.std.proofs.Common.{◌≡◌, ℕ, ◌+◌, ◌*◌, ◌/◌, ◌^◌, Some, ap, sym, subst, ◌∙◌}
use Rattle.vh_params.specs.ValueText.{number_text, IsValueIn}
use Rattle.vh_params.proofs.TextValues.{not_six, parts_over, parts_differ, fraction_value, text_differs, text_same}
use Rattle.vh_params.proofs.value.value_of_fraction.Goals as goal

pub returns-then-text-ne6 : goal.returns-then-text-ne6
returns-then-text-ne6 c = not_six c.args.text.now c.if-text-ne6.true

pub returns-then-parts-gt10000 : goal.returns-then-parts-gt10000
returns-then-parts-gt10000 c = parts_over c.args.text.now c.parts_in-parts.result c.parts_in-parts.ensures c.if-parts-gt10000.true

pub returns-then-ne : goal.returns-then-ne
returns-then-ne c =
    parts_differ c.args.text.now c.parts_in-parts.result c.parts_in-parts.ensures
    (λ e. text_differs c.text.result.now c.args.text.now c.ne.result c.ne.ensures c.if-ne.true (c.text.ensures.value ∙ c.of_fraction.ensures ∙ e))

pub returns : goal.returns
returns c =
    let same = text_same c.text.result.now c.args.text.now c.ne.result c.ne.ensures c.if-ne.false in
    let product : c.parts_in-parts.result * 2 ^ 24 ≡ c.from.result * c.from-2.result = ap (λ n. n * 2 ^ 24) (sym c.from.ensures) ∙ ap (λ n. c.from.result * n) (sym c.from-2.ensures) in
    let P : ℕ → Type 0 = λ n. IsValueIn 0 (number_text 0) c.args.text.now (Some ((n + 9999) / 10000)) in
    subst P product (fraction_value c.args.text.now c.parts_in-parts.result c.if-parts-gt10000.false (sym c.of_fraction.ensures ∙ sym c.text.ensures.value ∙ same))

-- Laws of value texts.
use Rattle.std.proofs.Common.{◌≡◌, ℕ, zero, suc, ◌≤◌, cond, eqb, List, Some, None, refl, sym, ap, ◌∙◌, inl, inr, arith}
use Rattle.std.specs.Prelude.{codes}
use Rattle.std.proofs.lemmas.Bool.{cases_Bool}
use Rattle.std.proofs.lemmas.Bool.Decides.{nat_tests}
use Rattle.std.proofs.lemmas.Fmt.{decimal_injective}
use Rattle.std.proofs.lemmas.List.{append_cancel_right}
use Rattle.vh_num.specs.Values.{index_of, norm_of, quant_of}
use Rattle.vh_params.specs.ValueText.{number_text, units_text, IsTextValue}
use Rattle.vh_params.specs.Laws.{TextIsRead, TextStandsForOne, TextsDiffer}

pub law_text_is_read : TextIsRead
law_text_is_read steps units v None le none = absurd (none v le refl)
law_text_is_read steps units v (Some w) le some = (w, refl, some.1)

-- equal steps where the texts are equal
switch_step : (i j : ℕ) → i ≤ 1 → j ≤ 1 → cond (eqb i 0) (codes "Off") (codes "On") ≡ cond (eqb j 0) (codes "Off") (codes "On") → i ≡ j
switch_step i j one other e = elim (cases_Bool (eqb i 0)) [
  | inl off ↦ elim (cases_Bool (eqb j 0)) [
    | inl too ↦ grind (arith, nat_tests)
    | inr on ↦ absurd (let text : codes "Off" ≡ codes "On" = sym (ap (λ b. cond b (codes "Off") (codes "On")) off) ∙ e ∙ ap (λ b. cond b (codes "Off") (codes "On")) on in cc)
  ]
  | inr on ↦ elim (cases_Bool (eqb j 0)) [
    | inl off ↦ absurd (let text : codes "On" ≡ codes "Off" = sym (ap (λ b. cond b (codes "Off") (codes "On")) on) ∙ e ∙ ap (λ b. cond b (codes "Off") (codes "On")) off in cc)
    | inr too ↦ grind (arith, nat_tests)
  ]
]

same_step : (steps : ℕ) (v w : ℕ) → 1 ≤ steps → steps ≤ 4095 → number_text steps v ≡ number_text steps w → index_of v steps ≡ index_of w steps
same_step zero v w some most e = absurd (omega arith)
same_step (suc zero) v w some most e = switch_step (index_of v 1) (index_of w 1) (omega arith) (omega arith) e
same_step (suc (suc n)) v w some most e = decimal_injective (index_of v (suc (suc n))) (index_of w (suc (suc n))) (omega arith) (omega arith) e

same_value : (steps v w : ℕ) → 1 ≤ steps → quant_of v steps ≡ v → quant_of w steps ≡ w → index_of v steps ≡ index_of w steps → v ≡ w
same_value zero v w some one other e = absurd (omega arith)
same_value (suc n) v w some one other e = sym one ∙ ap (λ i. norm_of i (suc n)) e ∙ other

pub law_texts_differ : TextsDiffer
law_texts_differ steps units v w some most one other e =
    same_value steps v w some one other (same_step steps v w some most (append_cancel_right (number_text steps v) (number_text steps w) (units_text units) e))

equal_values : (steps : ℕ) (units text : List ℕ) (v w : ℕ) → steps ≤ 4095 → IsTextValue steps units text (Some v) → IsTextValue steps units text (Some w) → v ≡ w
equal_values zero units text v w most one other =
    let below : v ≤ w = one.2 w other.0 (other.1 ∙ sym one.1) in
    let above : w ≤ v = other.2 v one.0 (one.1 ∙ sym other.1) in
    omega arith
equal_values (suc n) units text v w most one other = law_texts_differ (suc n) units v w (omega arith) most one.2 other.2 (one.1 ∙ sym other.1)

pub law_text_stands_for_one : TextStandsForOne
law_text_stands_for_one steps units text None None most one other = refl
law_text_stands_for_one steps units text None (Some w) most none some = absurd (none w some.0 some.1)
law_text_stands_for_one steps units text (Some v) None most some none = absurd (none v some.0 some.1)
law_text_stands_for_one steps units text (Some v) (Some w) most one other = ap Some (equal_values steps units text v w most one other)

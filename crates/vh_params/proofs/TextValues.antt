-- Values that are read from texts.
use Rattle.std.proofs.Common.{◌≡◌, ◌≢◌, ℕ, zero, suc, ◌+◌, ◌*◌, ◌/◌, ◌^◌, ◌<◌, ◌≤◌, List, [], ◌∷◌, ◌++◌, length, Bool, true, false, not, eqb, Option, Some, None, refl, sym, ap, ◌∙◌, arith}
use Rattle.std.specs.Fmt.{decimal}
use Rattle.std.specs.Str.{bytes_eq}
use Rattle.std.proofs.lemmas.Slice.Eq.{bytes_eq-Decides}
use Rattle.std.proofs.lemmas.Bool.{false≢true}
use Rattle.vh_params.proofs.Tables.{not_false}
use Rattle.std.proofs.lemmas.List.{append_assoc, append_cancel_right}
use Rattle.std.specs.Option.{MatchOption, IfSome, IfNone}
use Rattle.std.proofs.Math.Nat.{div-le_of_le-mul, mul-le-mul_right}
use Rattle.vh_num.specs.Values.{norm_of}
use Rattle.vh_num.proofs.Lawful.{law_index_of_norm}
use Rattle.vh_params.specs.Reading.{parts_of}
use Rattle.vh_params.specs.ValueText.{fraction_text, number_text, units_text, value_text, IsChosen, IsValueIn, IsTextValue}
use Rattle.vh_params.proofs.Decimals.{fraction_digits}

-- a number with four decimals has six bytes, and its parts are read back
pub six_bytes : (n : ℕ) → n ≤ 10000 → length (fraction_text n) ≡ 6
six_bytes n le = ap length (sym (fraction_digits n le))

pub parts_back : (n : ℕ) → n ≤ 10000 → parts_of (fraction_text n) ≡ n
parts_back n le = ap parts_of (sym (fraction_digits n le)) ∙ omega arith

-- the ten-thousandths of a value
pub parts_most : (w : ℕ) → w ≤ 2 ^ 24 → w * 10000 / 2 ^ 24 ≤ 10000
parts_most w le = omega arith

pub not_six : (text : List ℕ) → length text ≢ 6 → (w : ℕ) → w ≤ 2 ^ 24 → number_text 0 w ≢ text
not_six text other w le e = other (sym (ap length e) ∙ six_bytes (w * 10000 / 2 ^ 24) (parts_most w le))

pub parts_read : (text : List ℕ) (w : ℕ) → w ≤ 2 ^ 24 → number_text 0 w ≡ text → parts_of text ≡ w * 10000 / 2 ^ 24
parts_read text w le e = sym (ap parts_of e) ∙ parts_back (w * 10000 / 2 ^ 24) (parts_most w le)

pub parts_over : (text : List ℕ) (parts : ℕ) → parts ≡ parts_of text → 10000 < parts → (w : ℕ) → w ≤ 2 ^ 24 → number_text 0 w ≢ text
parts_over text parts is over w le e =
    let read = parts_read text w le e in
    let most = parts_most w le in
    omega (arith, is, over, read, most)

pub parts_differ : (text : List ℕ) (parts : ℕ) → parts ≡ parts_of text → fraction_text parts ≢ text → (w : ℕ) → w ≤ 2 ^ 24 → number_text 0 w ≢ text
parts_differ text parts is other w le e =
    let read = parts_read text w le e in
    other (ap fraction_text (is ∙ read) ∙ e)

pub fraction_value : (text : List ℕ) (parts : ℕ) → parts ≤ 10000 → fraction_text parts ≡ text → IsValueIn 0 (number_text 0) text (Some ((parts * 2 ^ 24 + 9999) / 10000))
fraction_value text parts le is =
    let v : ℕ = (parts * 2 ^ 24 + 9999) / 10000 in
    let within : v ≤ 2 ^ 24 = omega arith in
    let same : v * 10000 / 2 ^ 24 ≡ parts = omega arith in (
      within,
      ap fraction_text same ∙ is,
      λ w most e.
          let there : w * 10000 / 2 ^ 24 ≡ parts = sym (parts_read (number_text 0 v) w most e) ∙ ap (λ k. parts_of (fraction_text k)) same ∙ parts_back parts le in
          omega (arith, there),
    )

-- the value of a step
pub step_value : (steps step : ℕ) (text : List ℕ) → 2 ≤ steps → steps ≤ 4095 → step ≤ steps → decimal step ≡ text → IsValueIn steps (number_text steps) text (Some (norm_of step steps))
step_value zero step text some most within is = absurd (omega arith)
step_value (suc zero) step text some most within is = absurd (omega arith)
step_value (suc (suc n)) step text some most within is =
    let back = law_index_of_norm step (suc (suc n)) (omega arith) most within in (
      div-le_of_le-mul (suc (suc n)) (mul-le-mul_right (2 ^ 24) within),
      ap decimal back ∙ is,
      ap (λ i. norm_of i (suc (suc n))) back,
    )

-- the units behind a number
without_tail : (a b tail text : List ℕ) → text ≡ b ++ tail → a ++ tail ≡ text → a ≡ b
without_tail a b tail text is e = append_cancel_right a b tail (e ∙ is)

chosen_with_units : (steps : ℕ) (units : List ℕ) (v : ℕ) → IsChosen steps (number_text steps) v → IsChosen steps (value_text steps units) v
chosen_with_units zero units v chosen = λ w le e. chosen w le (append_cancel_right (number_text 0 w) (number_text 0 v) (units_text units) e)
chosen_with_units (suc n) units v chosen = chosen

pub with_units : (steps : ℕ) (units text number : List ℕ) (answer : Option ℕ) → text ≡ number ++ units_text units → IsValueIn steps (number_text steps) number answer → IsTextValue steps units text answer
with_units steps units text number None is none = λ w le e. none w le (without_tail (number_text steps w) number (units_text units) text is e)
with_units steps units text number (Some v) is some = (some.0, ap (λ t. t ++ units_text units) some.1 ∙ sym is, chosen_with_units steps units v some.2)

pub no_units : (steps : ℕ) (units text : List ℕ) → ((number : List ℕ) → text ≢ number ++ units_text units) → IsTextValue steps units text None
no_units steps units text none = λ w le e. none (number_text steps w) (sym e)

-- two texts that were compared
pub text_differs : (a b : List ℕ) (ne : Bool) → ne ≡ not (bytes_eq a b) → ne ≡ true → a ≢ b
text_differs a b ne is differs same =
    let equal : bytes_eq a b ≡ true = (bytes_eq-Decides a b).1 same in
    absurd (false≢true (sym (ap not equal) ∙ sym is ∙ differs))

pub text_same : (a b : List ℕ) (ne : Bool) → ne ≡ not (bytes_eq a b) → ne ≡ false → a ≡ b
text_same a b ne is equal = (bytes_eq-Decides a b).0 (not_false (bytes_eq a b) (sym is ∙ equal))

pub match_some : {X : Type 0} (o : Option X) (P : Type 0) (Q : X → Type 0) → MatchOption o P Q → IfSome o Q
match_some None P Q h = tt
match_some (Some x) P Q h = h

pub match_none : {X : Type 0} (o : Option X) (P : Type 0) (Q : X → Type 0) → MatchOption o P Q → IfNone o P
match_none None P Q h = h
match_none (Some x) P Q h = tt

pub none_then : {X : Type 0} (o : Option X) (P Q : Type 0) → (P → Q) → IfNone o P → IfNone o Q
none_then None P Q f h = f h
none_then (Some x) P Q f h = h

-- the units behind a number: a space, and the units
units_full : (units : List ℕ) → eqb (length units) 0 ≡ false → units_text units ≡ 32 ∷ units
units_full [] some = absurd (false≢true (sym some))
units_full (b ∷ bs) some = refl

pub no_unit : (text units : List ℕ) → eqb (length units) 0 ≡ false → ((front : List ℕ) → text ≢ front ++ units) → (number : List ℕ) → text ≢ number ++ units_text units
no_unit text units some none number e = none (number ++ 32 ∷ []) (e ∙ ap (λ t. number ++ t) (units_full units some) ∙ sym (append_assoc number (32 ∷ []) units))

pub no_space : (text front units : List ℕ) → eqb (length units) 0 ≡ false → text ≡ front ++ units → ((number : List ℕ) → front ≢ number ++ 32 ∷ []) → (number : List ℕ) → text ≢ number ++ units_text units
no_space text front units some is none number e =
    none number (append_cancel_right front (number ++ 32 ∷ []) units (sym is ∙ e ∙ ap (λ t. number ++ t) (units_full units some) ∙ sym (append_assoc number (32 ∷ []) units)))

-- Decimal texts, digit by digit.
use Rattle.std.proofs.Common.{◌≡◌, ℕ, ◌+◌, ◌/◌, ◌%◌, ◌<◌, ◌≤◌, [], ◌∷◌, ◌++◌, sym, ap, ◌∙◌, arith}
use Rattle.std.specs.Fmt.{decimal}
use Rattle.std.proofs.lemmas.Fmt.{decimal_digit, decimal_step}
use Rattle.vh_params.specs.ValueText.{four_digits, fraction_text}

pub one_digit : (n : ℕ) → n < 10 → (48 + n % 10) ∷ [] ≡ decimal n
one_digit n lt = ap (λ d. (48 + d) ∷ []) (let e : n % 10 ≡ n = omega arith in e) ∙ sym (decimal_digit n lt)

pub two_digits : (n : ℕ) → 10 ≤ n → n < 100 → (48 + n / 10 % 10) ∷ (48 + n % 10) ∷ [] ≡ decimal n
two_digits n le lt = ap (λ ds. ds ++ (48 + n % 10) ∷ []) (one_digit (n / 10) (omega arith)) ∙ sym (decimal_step n le (omega arith))

hundreds_of : (n : ℕ) → n / 10 / 10 ≡ n / 100
hundreds_of n = omega arith

thousands_of : (n : ℕ) → n / 10 / 100 ≡ n / 1000
thousands_of n = omega arith

pub three_digits : (n : ℕ) → 100 ≤ n → n < 1000 → (48 + n / 100 % 10) ∷ (48 + n / 10 % 10) ∷ (48 + n % 10) ∷ [] ≡ decimal n
three_digits n le lt =
    ap (λ h. (48 + h % 10) ∷ (48 + n / 10 % 10) ∷ (48 + n % 10) ∷ []) (sym (hundreds_of n))
    ∙ ap (λ ds. ds ++ (48 + n % 10) ∷ []) (two_digits (n / 10) (omega arith) (omega arith)) ∙ sym (decimal_step n (omega arith) (omega arith))

pub all_four_digits : (n : ℕ) → 1000 ≤ n → n < 10000 → (48 + n / 1000) ∷ (48 + n / 100 % 10) ∷ (48 + n / 10 % 10) ∷ (48 + n % 10) ∷ [] ≡ decimal n
all_four_digits n le lt =
    ap (λ t. (48 + t) ∷ (48 + n / 100 % 10) ∷ (48 + n / 10 % 10) ∷ (48 + n % 10) ∷ []) (let e : n / 1000 ≡ n / 10 / 100 % 10 = omega (arith, thousands_of n) in e)
    ∙ ap (λ h. (48 + n / 10 / 100 % 10) ∷ (48 + h % 10) ∷ (48 + n / 10 % 10) ∷ (48 + n % 10) ∷ []) (sym (hundreds_of n))
    ∙ ap (λ ds. ds ++ (48 + n % 10) ∷ []) (three_digits (n / 10) (omega arith) (omega arith)) ∙ sym (decimal_step n (omega arith) (omega arith))

pub fraction_digits : (n : ℕ) → n ≤ 10000 → (48 + n / 10000) ∷ 46 ∷ four_digits n ≡ fraction_text n
fraction_digits n le = ap (λ ds. ds ++ 46 ∷ four_digits n) (sym (decimal_digit (n / 10000) (omega arith)))

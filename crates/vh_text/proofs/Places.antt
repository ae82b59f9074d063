-- Digits count by their places.
use Rattle.std.proofs.Common.{◌≡◌, ℕ, ◌+◌, ◌-◌, ◌*◌, ◌^◌, ◌<◌, ◌≤◌, List, length, drop, get_or, Bool, true, false, refl, ◌&&◌, nat_le, ap, sym, ◌∙◌, arith}
use Rattle.std.specs.List.{list_all}
use Rattle.std.proofs.lemmas.Bool.{leb-true, false≢true}
use Rattle.std.proofs.lemmas.List.{drop_more, length-drop}
use Rattle.std.proofs.lemmas.Nat.{pow-add}
use Rattle.vh_text.specs.Numbers.{is_digit, value_of}

ten_more : (i : ℕ) → 10 ^ (i + 1) ≡ 10 ^ i * 10
ten_more i = pow-add 10 i 1

both : (x y : Bool) → (x && y) ≡ true → (x ≡ true) × (y ≡ true)
both true y e = (refl, e)
both false y e = absurd (false≢true e)

digit_bounds : (b : ℕ) → is_digit b ≡ true → (48 ≤ b) × (b ≤ 57)
digit_bounds b digit =
    let bounds = both (nat_le 48 b) (nat_le b 57) digit in
    (leb-true 48 b bounds.0, leb-true b 57 bounds.1)

digit_more : (text : List ℕ) (i n x : ℕ) → i < length text → x + 48 ≡ get_or text i 0 → (n * 10 + x) * 10 ^ (length text - (i + 1)) + value_of (drop (i + 1) text) ≡ n * 10 ^ (length text - i) + value_of (drop i text)
digit_more text i n x within digit =
    let rest = length text - (i + 1) in
    let long : length text - i ≡ rest + 1 = omega (arith, within) in
    let value : value_of (drop i text) ≡ x * 10 ^ rest + value_of (drop (i + 1) text) =
    ap (λ (ds : List ℕ). value_of ds) (drop_more text i 0 within)
    ∙ ap (λ n. (get_or text i 0 - 48) * 10 ^ n + value_of (drop (i + 1) text)) (length-drop (i + 1) text)
    ∙ ap (λ d. d * 10 ^ rest + value_of (drop (i + 1) text)) (let e : get_or text i 0 - 48 ≡ x = omega (arith, digit) in e) in
    let power : 10 ^ (length text - i) ≡ 10 ^ rest * 10 = ap (λ m. 10 ^ m) long ∙ ten_more rest in
    rw power (rw value (omega arith))

power_more : (n i x : ℕ) → n < 10 ^ i → x ≤ 9 → n * 10 + x < 10 ^ (i + 1)
power_more n i x below digit = omega (arith, below, digit, ten_more i)

-- the number of the digits up to here, and what is left of the text
pub record IsRead (text : List ℕ) (i n : ℕ) : Type 0 where
  pub digits : list_all is_digit (drop i text) ≡ list_all is_digit text
  pub value : n * 10 ^ (length text - i) + value_of (drop i text) ≡ value_of text
  pub below : n < 10 ^ i

pub read_more : (text : List ℕ) (i n x : ℕ) → i < length text → is_digit (get_or text i 0) ≡ true → x ≡ get_or text i 0 - 48 → IsRead text i n → IsRead text (i + 1) (n * 10 + x)
read_more text i n x within digit is read =
    let bounds = digit_bounds (get_or text i 0) digit in
    record {
      digits = sym (ap (λ (ds : List ℕ). list_all is_digit ds) (drop_more text i 0 within) ∙ ap (λ b. b && list_all is_digit (drop (i + 1) text)) digit) ∙ read.digits;
      value = digit_more text i n x within (omega (arith, is, bounds.0)) ∙ read.value;
      below = power_more n i x read.below (omega (arith, is, bounds.1));
    }

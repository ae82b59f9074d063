-- Numbers that are written are read, and are words.
use Rattle.std.proofs.Common.{◌≡◌, ◌∙◌, ℕ, ◌^◌, ◌<◌, ◌≤◌, Bool, true, cond, length, get_or, refl, ap, arith, Some, None, Ok, nat_lt}
use Rattle.std.specs.Prelude.{nat_le, ◌&&◌, not, ok_or}
use Rattle.std.specs.Fmt.{decimal}
use Rattle.std.specs.List.{list_all}
use Rattle.std.proofs.lemmas.Bool.{and_parts, and_from, leb-true, le-leb, lt-ltb, not_from_true}
use Rattle.std.proofs.lemmas.Fmt.{decimal_nonempty, length-decimal-le, digits_decimal, digits_value-decimal}
use Rattle.std.proofs.lemmas.List.{get_or_default}
use Rattle.std.proofs.lemmas.Str.Parse.{IsDigitsTest, WeighsDigits, IsNumeralModel, numerals_by_weight, tells_by_index}
use Rattle.vh_text.specs.Numbers.{is_digit, value_of, is_number, number_of}
use Rattle.vh_text.specs.Tokens.{IsWord}

tells : IsDigitsTest (λ ds. list_all is_digit ds ≡ true)
tells = record {
  empty = refl;
  parts = λ c cs all. let both = and_parts (is_digit c) (list_all is_digit cs) all in let ends = and_parts (nat_le 48 c) (nat_le c 57) both.0 in ((leb-true 48 c ends.0, leb-true c 57 ends.1), both.1);
  more = λ c cs within rest. and_from (is_digit c) (list_all is_digit cs) (and_from (nat_le 48 c) (nat_le c 57) (le-leb 48 c within.0) (le-leb c 57 within.1)) rest;
}

weighs : WeighsDigits value_of
weighs = record { empty = refl; more = λ c cs within. refl }

model : IsNumeralModel (λ ds. list_all is_digit ds ≡ true) value_of
model = numerals_by_weight (λ ds. list_all is_digit ds ≡ true) tells value_of weighs

pub number_reads : (n : ℕ) → n < 2 ^ 32 → number_of (decimal n) ≡ Some n
number_reads n small =
    let digits = digits_decimal model n (omega (arith, small)) in
    let value = digits_value-decimal model n (omega (arith, small)) in
    let some = le-leb 1 (length (decimal n)) (decimal_nonempty n (omega (arith, small))) in
    let few = le-leb (length (decimal n)) 10 (length-decimal-le 10 n (omega arith) (omega (arith, small)) (omega (arith, small))) in
    let below = lt-ltb (value_of (decimal n)) (2 ^ 32) (omega (arith, value, small)) in
    let test : is_number (decimal n) ≡ true = and_from (nat_le 1 (length (decimal n)) && nat_le (length (decimal n)) 10) (list_all is_digit (decimal n) && nat_lt (value_of (decimal n)) (2 ^ 32)) (and_from (nat_le 1 (length (decimal n))) (nat_le (length (decimal n)) 10) some few) (and_from (list_all is_digit (decimal n)) (nat_lt (value_of (decimal n)) (2 ^ 32)) digits below) in
    ap (λ t. cond t (Some (value_of (decimal n))) None) test ∙ ap (λ m. Some m) value

pub number_word : (n : ℕ) → n < 2 ^ 32 → IsWord (decimal n)
number_word n small =
    let digits = digits_decimal (numerals_by_weight (λ ds. (i : ℕ) → i < length ds → (48 ≤ get_or ds i 0) × (get_or ds i 0 ≤ 57)) tells_by_index value_of weighs) n (omega (arith, small)) in (
      decimal_nonempty n (omega (arith, small)),
      λ k d lt.
          let e = get_or_default (decimal n) k 0 d lt in
          let low = (digits k lt).0 in
          let high = (digits k lt).1 in
          (omega (arith, e, low), omega (arith, e, high)),
    )

use Rattle.std.proofs.Common.{◌≡◌, ℕ, zero, suc, ◌+◌, ◌-◌, ◌<◌, ◌/◌, ◌%◌, ◌==◌, Bool, true, ◌&&◌, inl, inr, List, [], ◌∷◌, map, slice_index, Option, Some, None, is_some, refl, ap, subst, ◌∙◌, arith}
use Rattle.std.proofs.lemmas.Bool.{and_parts, cases_lt, eqb-true, false≢true}
use Rattle.std.proofs.lemmas.List.{length-map}
use Rattle.std.specs.Char.{to_ascii_uppercase}
use Rattle.std.specs.List.{AllPass}
use Rattle.hex.specs.Hex.{decode_of, decode_pairs, digit_or_error, hex_digit_value, value_at, is_hex_digit, encode_lower, encode_upper, encode_with, lower_digits, upper_digits}

abbrev raises : ℕ → Bool
raises d = to_ascii_uppercase (slice_index lower_digits d) == slice_index upper_digits d

abbrev all_raise : ℕ → Bool
all_raise zero = true
all_raise (suc n) = raises n && all_raise n

all_raise-at : (n k : ℕ) → all_raise n ≡ true → k < n → raises k ≡ true
all_raise-at zero k h lt = absurd (omega arith)
all_raise-at (suc n) k h lt =
    let parts = and_parts (raises n) (all_raise n) h in
    elim (cases_lt k n) [
      | inl below ↦ all_raise-at n k parts.1 below
      | inr top ↦
          let e : k ≡ n = omega arith in
          rw e parts.0
    ]

-- past its digits a table has zeros
past : (d : ℕ) → to_ascii_uppercase (slice_index lower_digits (suc (suc (suc (suc (suc (suc (suc (suc (suc (suc (suc (suc (suc (suc (suc (suc d))))))))))))))))) ≡ slice_index upper_digits (suc (suc (suc (suc (suc (suc (suc (suc (suc (suc (suc (suc (suc (suc (suc (suc d))))))))))))))))
past d = refl

-- a digit in upper case is that of the upper digits
raised : (d : ℕ) → to_ascii_uppercase (slice_index lower_digits d) ≡ slice_index upper_digits d
raised d =
    elim (cases_lt d 16) [
      | inl lt ↦ eqb-true (to_ascii_uppercase (slice_index lower_digits d)) (slice_index upper_digits d) (all_raise-at 16 d refl lt)
      | inr ge ↦
          let e : (suc (suc (suc (suc (suc (suc (suc (suc (suc (suc (suc (suc (suc (suc (suc (suc (d - 16))))))))))))))))) ≡ d = omega arith in
          subst (λ n. to_ascii_uppercase (slice_index lower_digits n) ≡ slice_index upper_digits n) e (past (d - 16))
    ]

-- a text in upper case has the upper digits
pub raised_text : (xs : List ℕ) → map to_ascii_uppercase (encode_lower xs) ≡ encode_upper xs
unfolding encode_with
raised_text [] = refl
raised_text (b ∷ rest) =
    ap (λ x. x ∷ map to_ascii_uppercase (slice_index lower_digits (b % 16) ∷ encode_lower rest)) (raised (b / 16))
    ∙ ap (λ x. slice_index upper_digits (b / 16) ∷ x ∷ map to_ascii_uppercase (encode_lower rest)) (raised (b % 16))
    ∙ ap (λ x. slice_index upper_digits (b / 16) ∷ slice_index upper_digits (b % 16) ∷ x) (raised_text rest)

-- a digit reads the same in upper case
pub same_value : (c : ℕ) → hex_digit_value (to_ascii_uppercase c) ≡ hex_digit_value c
same_value c = grind arith

either_digit : (a b i : ℕ) (o : Option ℕ) → is_some o ≡ true → digit_or_error a i o ≡ digit_or_error b i o
either_digit a b i (Some v) some = refl
either_digit a b i None some = absurd (false≢true some)

same_digit : (c i : ℕ) → is_hex_digit c ≡ true → value_at (to_ascii_uppercase c) i ≡ value_at c i
same_digit c i is_digit =
    ap (digit_or_error (to_ascii_uppercase c) i) (same_value c) ∙ either_digit (to_ascii_uppercase c) c i (hex_digit_value c) is_digit

-- two digits at the front of a text
same_pair : (i high low : ℕ) (rest : List ℕ) → decode_pairs (i + 2) (map to_ascii_uppercase rest) ≡ decode_pairs (i + 2) rest
    → is_hex_digit high ≡ true → is_hex_digit low ≡ true
    → decode_pairs i (to_ascii_uppercase high ∷ to_ascii_uppercase low ∷ map to_ascii_uppercase rest) ≡ decode_pairs i (high ∷ low ∷ rest)
unfolding decode_pairs
same_pair i high low rest same h l = rw (same_digit high i h, same_digit low (i + 1) l, same) refl

-- digits read the same in upper case
pub same_pairs : (i : ℕ) (text : List ℕ) → AllPass is_hex_digit text → decode_pairs i (map to_ascii_uppercase text) ≡ decode_pairs i text
unfolding decode_pairs
same_pairs i [] all = refl
same_pairs i (digit ∷ []) all = refl
same_pairs i (high ∷ low ∷ rest) all = same_pair i high low rest (same_pairs (i + 2) rest (λ k d lt. all (suc (suc k)) d (omega (arith, lt)))) (all 0 0 (omega arith)) (all 1 0 (omega arith))

pub same_text : (text : List ℕ) → AllPass is_hex_digit text → decode_of (map to_ascii_uppercase text) ≡ decode_of text
same_text text all =
    let len = length-map text to_ascii_uppercase in
    rw (len, same_pairs 0 text all) refl

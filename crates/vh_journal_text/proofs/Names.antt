-- Names of nodes are words, and short.
use Rattle.std.proofs.Common.{◌≡◌, inl, inr, ℕ, ◌≤◌, ◌==◌, true, List, [], ◌∷◌, length, arith}
use Rattle.std.specs.Prelude.{All, nat_le, ◌&&◌, ◌||◌, not, codes, slice_index}
use Rattle.std.specs.List.{list_all}
use Rattle.std.specs.Str.{bytes_eq}
use Rattle.std.proofs.lemmas.Bool.{and_parts, leb-true, or_cases, eqb-true}
use Rattle.std.proofs.lemmas.List.Elements.{All-cons}
use Rattle.vh_params.specs.Names.{is_name, is_name_byte, is_lower, is_digit}
use Rattle.vh_text.specs.Tokens.{IsWord}

name_byte : (b : ℕ) → is_name_byte b ≡ true → (33 ≤ b) × (b ≤ 126)
name_byte b is = elim (or_cases (is_lower b || is_digit b) (b == 95) is) [
  | inl first ↦ elim (or_cases (is_lower b) (is_digit b) first) [
    | inl lower ↦ let ends = and_parts (nat_le 97 b) (nat_le b 122) lower in let low = leb-true 97 b ends.0 in let high = leb-true b 122 ends.1 in (omega (arith, low), omega (arith, high))
    | inr digit ↦ let ends = and_parts (nat_le 48 b) (nat_le b 57) digit in let low = leb-true 48 b ends.0 in let high = leb-true b 57 ends.1 in (omega (arith, low), omega (arith, high))
  ]
  | inr line ↦ let e = eqb-true b 95 line in (omega (arith, e), omega (arith, e))
]

name_bytes : (bs : List ℕ) → list_all is_name_byte bs ≡ true → All (λ b. (33 ≤ b) × (b ≤ 126)) bs
name_bytes [] is = λ k d lt. absurd (omega (arith, lt))
name_bytes (b ∷ bs) is = let both = and_parts (is_name_byte b) (list_all is_name_byte bs) is in All-cons (λ b. (33 ≤ b) × (b ≤ 126)) b bs (name_byte b both.0) (name_bytes bs both.1)

-- what a name is, rule by rule
pub record NameRules (text : List ℕ) : Type 0 where
  pub some : 1 ≤ length text
  pub few : length text ≤ 32
  pub bytes : list_all is_name_byte text ≡ true

pub name_rules : (text : List ℕ) → is_name text ≡ true → NameRules text
name_rules text is =
    let all = and_parts ((nat_le 1 (length text) && nat_le (length text) 32) && (is_lower (slice_index text 0) && list_all is_name_byte text)) (not (bytes_eq text (codes "in")) && not (bytes_eq text (codes "out"))) is in
    let front = and_parts (nat_le 1 (length text) && nat_le (length text) 32) (is_lower (slice_index text 0) && list_all is_name_byte text) all.0 in
    let long = and_parts (nat_le 1 (length text)) (nat_le (length text) 32) front.0 in
    record {
      some = leb-true 1 (length text) long.0;
      few = leb-true (length text) 32 long.1;
      bytes = (and_parts (is_lower (slice_index text 0)) (list_all is_name_byte text) front.1).1;
    }

pub name_word : (text : List ℕ) → is_name text ≡ true → IsWord text
name_word text is = let rules = name_rules text is in (rules.some, name_bytes text rules.bytes)

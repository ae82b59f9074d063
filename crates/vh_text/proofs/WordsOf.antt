-- Which texts are words.
use Rattle.std.proofs.Common.{◌≡◌, ℕ, ◌≤◌, Bool, true, List, [], ◌∷◌, length, arith}
use Rattle.std.specs.Prelude.{All, nat_le, ◌&&◌}
use Rattle.std.specs.List.{list_all}
use Rattle.std.proofs.lemmas.Bool.{and_parts, leb-true}
use Rattle.std.proofs.lemmas.List.Elements.{All-cons}
use Rattle.vh_text.specs.Tokens.{IsWord}

abbrev pub is_mark : ℕ → Bool
is_mark b = nat_le 33 b && nat_le b 126

abbrev pub is_code : List ℕ → Bool
is_code text = nat_le 1 (length text) && list_all is_mark text

marks : (bs : List ℕ) → list_all is_mark bs ≡ true → All (λ b. (33 ≤ b) × (b ≤ 126)) bs
marks [] is = λ k d lt. absurd (omega (arith, lt))
marks (b ∷ bs) is =
    let both = and_parts (is_mark b) (list_all is_mark bs) is in
    let ends = and_parts (nat_le 33 b) (nat_le b 126) both.0 in
    All-cons (λ b. (33 ≤ b) × (b ≤ 126)) b bs (leb-true 33 b ends.0, leb-true b 126 ends.1) (marks bs both.1)

pub code_word : (text : List ℕ) → is_code text ≡ true → IsWord text
code_word text is = let both = and_parts (nat_le 1 (length text)) (list_all is_mark text) is in (leb-true 1 (length text) both.0, marks text both.1)

-- words in a row

pub no_words : All IsWord []
no_words = λ k d lt. absurd (omega (arith, lt))

pub one_more : (word : List ℕ) (words : List (List ℕ)) → IsWord word → All IsWord words → All IsWord (word ∷ words)
one_more word words is all = All-cons IsWord word words is all

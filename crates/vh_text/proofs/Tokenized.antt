-- Words, one after the other.
use Rattle.std.proofs.Common.{◌≡◌, ◌≢◌, ℕ, suc, ◌+◌, ◌<◌, true, false, not, cond, nat_eq, List, [], ◌∷◌, ◌++◌, sym, length, get_or, drop, take, map, ◌-◌, ◌≤◌, refl, ap, ◌∙◌, arith}
use Rattle.std.proofs.lemmas.Bool.{ne_eqb}
use Rattle.std.proofs.lemmas.List.{drop_more, drop-drop, append_assoc, drop_all}
use Rattle.vh_text.specs.declared.token.Token.{Token}
use Rattle.vh_text.specs.Tokens.{tokens_from, begin_at, word_length, tokens_of, first_word}

-- the word that begins with this byte is the first
pub word_is_first : (at b : ℕ) (bs : List ℕ) → nat_eq b 32 ≡ false → tokens_from at (b ∷ bs) ≡ record { from = at; to = at + suc (word_length bs) } ∷ tokens_from (at + suc (word_length bs)) (drop (word_length bs) bs)
word_is_first at b [] word = rw word refl
word_is_first at b (c ∷ cs) word =
    elim (nat_eq c 32) as (λ t. nat_eq c 32 ≡ t → tokens_from at (b ∷ c ∷ cs) ≡ record { from = at; to = at + suc (cond t 0 (suc (word_length cs))) } ∷ tokens_from (at + suc (cond t 0 (suc (word_length cs)))) (drop (cond t 0 (suc (word_length cs))) (c ∷ cs))) [
      | true ↦ λ space. rw word (ap (λ t. cond (not t) (begin_at at (tokens_from (at + 1) (c ∷ cs))) (record { from = at; to = at + 1 } ∷ tokens_from (at + 1) (c ∷ cs))) space)
      | false ↦ λ goes.
          let front : tokens_from at (b ∷ c ∷ cs) ≡ begin_at at (tokens_from (at + 1) (c ∷ cs)) =
          rw word (ap (λ t. cond (not t) (begin_at at (tokens_from (at + 1) (c ∷ cs))) (record { from = at; to = at + 1 } ∷ tokens_from (at + 1) (c ∷ cs))) goes) in
          let rest = word_is_first (at + 1) c cs goes in
          let end : at + 1 + suc (word_length cs) ≡ at + suc (suc (word_length cs)) = omega arith in
          front ∙ ap (λ (tokens : List Token). begin_at at tokens) rest ∙ ap (λ n. record { from = at; to = n } ∷ tokens_from n (drop (word_length cs) cs)) end
    ] refl

word_more : (line : List ℕ) (at end : ℕ) → at < length line → get_or line at 0 ≢ 32 → end ≡ at + word_length (drop at line) → tokens_from at (drop at line) ≡ record { from = at; to = end } ∷ tokens_from end (drop end line)
word_more line at end within other is =
    let word : nat_eq (get_or line at 0) 32 ≡ false = ne_eqb (get_or line at 0) 32 other in
    let here = drop_more line at 0 within in
    let behind = word_length (drop (at + 1) line) in
    let long : word_length (drop at line) ≡ suc behind = ap (λ (bs : List ℕ). word_length bs) here ∙ ap (λ t. cond t 0 (suc behind)) word in
    let there : at + suc behind ≡ end = omega (arith, is, long) in
    let place : at + 1 + behind ≡ end = omega (arith, is, long) in
    let rest : drop behind (drop (at + 1) line) ≡ drop end line = drop-drop behind (at + 1) line ∙ ap (λ n. drop n line) place in
    ap (λ (bs : List ℕ). tokens_from at bs) here
    ∙ word_is_first at (get_or line at 0) (drop (at + 1) line) word
    ∙ ap (λ n. record { from = at; to = n } ∷ tokens_from n (drop behind (drop (at + 1) line))) there
    ∙ ap (λ (bs : List ℕ). record { from = at; to = end } ∷ tokens_from end bs) rest

pub word_told : (line : List ℕ) (at end : ℕ) (told now : List Token) → at < length line → get_or line at 0 ≢ 32 → end ≡ at + word_length (drop at line) → now ≡ told ++ record { from = at; to = end } ∷ []
    → told ++ tokens_from at (drop at line) ≡ tokens_from 0 line → now ++ tokens_from end (drop end line) ≡ tokens_from 0 line
word_told line at end told now within other is more so_far =
    let rest = tokens_from end (drop end line) in
    ap (λ (tokens : List Token). tokens ++ rest) more
    ∙ append_assoc told (record { from = at; to = end } ∷ []) rest
    ∙ ap (λ (tokens : List Token). told ++ tokens) (sym (word_more line at end within other is))
    ∙ so_far

-- the text of a token
abbrev text_of : List ℕ → Token → List ℕ
text_of line token = take (token.to - token.from) (drop token.from line)

-- behind spaces the first word is the one that stands here
pub word_here : (line : List ℕ) (at end : ℕ) → at < length line → get_or line at 0 ≢ 32 → end ≡ at + word_length (drop at line) → tokens_from at (drop at line) ≡ tokens_of line → take (end - at) (drop at line) ≡ first_word line
word_here line at end within other is spaces =
    sym (ap (λ (tokens : List Token). get_or (map (text_of line) tokens) 0 []) (sym spaces ∙ word_more line at end within other is))

-- a line of spaces has none
pub no_word : (line : List ℕ) → tokens_from (length line) (drop (length line) line) ≡ tokens_of line → first_word line ≡ []
no_word line spaces = ap (λ (tokens : List Token). get_or (map (text_of line) tokens) 0 []) (sym spaces ∙ ap (λ (bs : List ℕ). tokens_from (length line) bs) (drop_all (length line) line (omega arith)))

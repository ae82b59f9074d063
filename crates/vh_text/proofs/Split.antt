-- The words of a line, byte by byte.
use Rattle.std.proofs.Common.{◌≡◌, ◌∙◌, ℕ, zero, suc, ◌+◌, ◌-◌, ◌<◌, ◌≤◌, ◌==◌, true, false, cond, List, [], ◌∷◌, drop, take, map, length, get_or, refl, sym, ap, subst, arith, true≢false}
use Rattle.std.specs.Prelude.{All, Some, if◌then◌else◌, not, nat_le}
use Rattle.std.specs.Option.{is_some}
use Rattle.std.proofs.lemmas.Bool.{eqb-false, leb-true, and_parts}
use Rattle.std.proofs.lemmas.List.Elements.{All-cons, All-tail}
use Rattle.vh_text.specs.declared.token.Token.{Token}
use Rattle.vh_text.specs.Tokens.{tokens_from, begin_at, goes_on, bad_byte, bad_from, is_printable, words_of, IsWord}

-- a byte at the front of the first word
abbrev pub push_first : ℕ → List (List ℕ) → List (List ℕ)
push_first b [] = []
push_first b (word ∷ words) = (b ∷ word) ∷ words

abbrev pub split : List ℕ → List (List ℕ)
split [] = []
split (b ∷ bs) = if b == 32 then split bs else if goes_on bs then push_first b (split bs) else (b ∷ []) ∷ split bs

abbrev cut : List ℕ → Token → List ℕ
cut text token = take (token.to - token.from) (drop token.from text)

-- the first token begins here, and has a byte
abbrev pub FirstAt : ℕ → List Token → Type 0
FirstAt at [] = ⊥
FirstAt at (token ∷ tokens) = (token.from ≡ at) × (at < token.to)

pub first_at : (at : ℕ) (bs : List ℕ) → goes_on bs ≡ true → FirstAt at (tokens_from at bs)
first_at at [] goes = absurd (true≢false (sym goes))
first_at at (b ∷ bs) goes = elim (b == 32) as (λ t. not t ≡ true → FirstAt at (cond t (tokens_from (at + 1) bs) (cond (goes_on bs) (begin_at at (tokens_from (at + 1) bs)) (record { from = at; to = at + 1 } ∷ tokens_from (at + 1) bs)))) [
  | true ↦ λ g. absurd (true≢false (sym g))
  | false ↦ λ g. elim (goes_on bs) as (λ t. goes_on bs ≡ t → FirstAt at (cond t (begin_at at (tokens_from (at + 1) bs)) (record { from = at; to = at + 1 } ∷ tokens_from (at + 1) bs))) [
    | true ↦ λ on. begun at (tokens_from (at + 1) bs) (first_at (at + 1) bs on)
    | false ↦ λ on. (refl, omega arith)
  ] refl
] goes
  where
    begun : (at : ℕ) (tokens : List Token) → FirstAt (at + 1) tokens → FirstAt at (begin_at at tokens)
    begun at [] first = first
    begun at (token ∷ tokens) first = (refl, let g = first.1 in omega (arith, g))

next_drop : (text : List ℕ) (at b : ℕ) (bs : List ℕ) → drop at text ≡ b ∷ bs → drop (at + 1) text ≡ bs
next_drop [] zero b bs is = absurd (let e = ap (λ xs. length xs) is in omega (arith, e))
next_drop [] (suc at) b bs is = absurd (let e = ap (λ xs. length xs) is in omega (arith, e))
next_drop (x ∷ xs) zero b bs is = ap (λ ys. drop 1 ys) is
next_drop (x ∷ xs) (suc at) b bs is = ap (λ n. drop n (x ∷ xs)) (let e : suc at + 1 ≡ suc (at + 1) = omega arith in e) ∙ next_drop xs at b bs is

cut_one : (text : List ℕ) (at b : ℕ) (bs : List ℕ) → drop at text ≡ b ∷ bs → cut text (record { from = at; to = at + 1 }) ≡ b ∷ []
cut_one text at b bs is = ap (λ n. take n (drop at text)) (let e : (at + 1) - at ≡ 1 = omega arith in e) ∙ ap (λ xs. take 1 xs) is

cut_begun : (text : List ℕ) (at b : ℕ) (bs : List ℕ) (tokens : List Token) → drop at text ≡ b ∷ bs → FirstAt (at + 1) tokens → map (cut text) (begin_at at tokens) ≡ push_first b (map (cut text) tokens)
cut_begun text at b bs [] is first = absurd first
cut_begun text at b bs (token ∷ tokens) is first =
    let to = token.to in
    let lt = first.1 in
    let longer : to - at ≡ suc (to - (at + 1)) = omega (arith, lt) in
    let begun : take (to - at) (drop at text) ≡ b ∷ take (to - (at + 1)) bs = ap (λ n. take n (drop at text)) longer ∙ ap (λ xs. take (suc (to - (at + 1))) xs) is in
    let rest : take (to - (at + 1)) bs ≡ take (to - token.from) (drop token.from text) =
    ap (λ xs. take (to - (at + 1)) xs) (sym (next_drop text at b bs is)) ∙ ap (λ n. take (to - n) (drop n text)) (sym first.0) in
    ap (λ word. word ∷ map (cut text) tokens) (begun ∙ ap (λ xs. b ∷ xs) rest)

cut_from : (text : List ℕ) (at : ℕ) (bs : List ℕ) → drop at text ≡ bs → map (cut text) (tokens_from at bs) ≡ split bs
cut_from text at [] is = refl
cut_from text at (b ∷ bs) is =
    let rest = cut_from text (at + 1) bs (next_drop text at b bs is) in
    elim (b == 32) as (λ t. map (cut text) (cond t (tokens_from (at + 1) bs) (cond (goes_on bs) (begin_at at (tokens_from (at + 1) bs)) (record { from = at; to = at + 1 } ∷ tokens_from (at + 1) bs))) ≡ cond t (split bs) (cond (goes_on bs) (push_first b (split bs)) ((b ∷ []) ∷ split bs))) [
      | true ↦ rest
      | false ↦ elim (goes_on bs) as (λ t. goes_on bs ≡ t → map (cut text) (cond t (begin_at at (tokens_from (at + 1) bs)) (record { from = at; to = at + 1 } ∷ tokens_from (at + 1) bs)) ≡ cond t (push_first b (split bs)) ((b ∷ []) ∷ split bs)) [
        | true ↦ λ on. cut_begun text at b bs (tokens_from (at + 1) bs) is (first_at (at + 1) bs on) ∙ ap (push_first b) rest
        | false ↦ λ on. ap (λ word. word ∷ map (cut text) (tokens_from (at + 1) bs)) (cut_one text at b bs is) ∙ ap (λ words. (b ∷ []) ∷ words) rest
      ] refl
    ]

pub words_split : (text : List ℕ) → words_of text ≡ split text
words_split text = cut_from text 0 text refl

-- words of printable bytes

none_bad : (at b : ℕ) (bs : List ℕ) → is_some (bad_from at (b ∷ bs)) ≡ false → (is_printable b ≡ true) × (is_some (bad_from (at + 1) bs) ≡ false)
none_bad at b bs none = elim (is_printable b) as (λ t. is_some (cond t (bad_from (at + 1) bs) (Some (record { place = at }))) ≡ false → (t ≡ true) × (is_some (bad_from (at + 1) bs) ≡ false)) [
  | true ↦ λ n. (refl, n)
  | false ↦ λ n. absurd (true≢false n)
] none

printable : (b : ℕ) → is_printable b ≡ true → (b == 32) ≡ false → (33 ≤ b) × (b ≤ 126)
printable b is other =
    let low = leb-true 32 b (and_parts (nat_le 32 b) (nat_le b 126) is).0 in
    let high = leb-true b 126 (and_parts (nat_le 32 b) (nat_le b 126) is).1 in
    let differ = eqb-false b 32 other in
    (grind (arith, low, differ), high)

one_byte : (b : ℕ) → (33 ≤ b) × (b ≤ 126) → IsWord (b ∷ [])
one_byte b is = (
  omega arith,
  λ k d lt. elim k as (λ k. k < 1 → (33 ≤ get_or (b ∷ []) k d) × (get_or (b ∷ []) k d ≤ 126)) [
    | zero ↦ λ l. is
    | suc k ↦ λ l. absurd (omega (arith, l))
  ] lt,
)

front_byte : (b : ℕ) (word : List ℕ) → (33 ≤ b) × (b ≤ 126) → IsWord word → IsWord (b ∷ word)
front_byte b word is words = (
  omega arith,
  λ k d lt. elim k as (λ k. k < suc (length word) → (33 ≤ get_or (b ∷ word) k d) × (get_or (b ∷ word) k d ≤ 126)) [
    | zero ↦ λ l. is
    | suc k ↦ λ l. words.1 k d (omega (arith, l))
  ] lt,
)

all_pushed : (b : ℕ) (words : List (List ℕ)) → (33 ≤ b) × (b ≤ 126) → All IsWord words → All IsWord (push_first b words)
all_pushed b [] is all = all
all_pushed b (word ∷ words) is all = All-cons IsWord (b ∷ word) words (front_byte b word is (all 0 word (omega arith))) (All-tail IsWord word words all)

all_split : (at : ℕ) (bs : List ℕ) → is_some (bad_from at bs) ≡ false → All IsWord (split bs)
all_split at [] none = λ k d lt. absurd (omega (arith, lt))
all_split at (b ∷ bs) none =
    let parts = none_bad at b bs none in
    let rest = all_split (at + 1) bs parts.1 in
    elim (b == 32) as (λ t. (b == 32) ≡ t → All IsWord (cond t (split bs) (cond (goes_on bs) (push_first b (split bs)) ((b ∷ []) ∷ split bs)))) [
      | true ↦ λ test. rest
      | false ↦ λ test.
          let is = printable b parts.0 test in
          elim (goes_on bs) as (λ t. All IsWord (cond t (push_first b (split bs)) ((b ∷ []) ∷ split bs))) [
            | true ↦ all_pushed b (split bs) is rest
            | false ↦ All-cons IsWord (b ∷ []) (split bs) (one_byte b is) rest
          ]
    ] refl

pub all_words : (text : List ℕ) → is_some (bad_byte text) ≡ false → All IsWord (words_of text)
all_words text none = subst (λ words. All IsWord words) (sym (words_split text)) (all_split 0 text none)

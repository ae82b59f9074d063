-- The bytes of lines that are written as words.
use Rattle.std.proofs.Common.{◌≡◌, ◌∙◌, ℕ, zero, suc, ◌+◌, ◌-◌, ◌≤◌, ◌==◌, true, false, cond, List, [], ◌∷◌, ◌++◌, map, take, length, get_or, refl, sym, ap, arith, Some, Ok}
use Rattle.std.specs.Prelude.{All, not, nat_le}
use Rattle.std.specs.Option.{is_some}
use Rattle.std.proofs.lemmas.Bool.{eqb-true, false_from_ne_true, and_from, le-leb}
use Rattle.std.proofs.lemmas.List.{append_assoc}
use Rattle.std.proofs.lemmas.List.Elements.{All-cons, All-tail, All-append}
use Rattle.vh_text.specs.Lines.{parts_of, begin_with, without_return, lines_of}
use Rattle.vh_text.specs.Tokens.{goes_on, bad_from, is_printable, words_of, IsWord}
use Rattle.vh_text.specs.Written.{further_text, line_text, lines_text}
use Rattle.vh_text.proofs.Split.{split, push_first, words_split}

-- words with a space before each
abbrev pub spaced : List (List ℕ) → List ℕ
spaced [] = []
spaced (word ∷ words) = 32 ∷ (word ++ spaced words)

-- a line without its end
abbrev pub joined : List (List ℕ) → List ℕ
joined [] = []
joined (word ∷ words) = word ++ spaced words

further_is : (words : List (List ℕ)) → further_text words ≡ spaced words ++ 10 ∷ []
further_is [] = refl
further_is (word ∷ words) = ap (λ bs. 32 ∷ bs) (ap (λ bs. word ++ bs) (further_is words) ∙ sym (append_assoc word (spaced words) (10 ∷ [])))

pub line_is : (words : List (List ℕ)) → line_text words ≡ joined words ++ 10 ∷ []
line_is [] = refl
line_is (word ∷ words) = ap (λ bs. word ++ bs) (further_is words) ∙ sym (append_assoc word (spaced words) (10 ∷ []))

-- a byte of a word is no space
no_space : (b : ℕ) → 33 ≤ b → (b == 32) ≡ false
no_space b low = false_from_ne_true (b == 32) (λ test. let e = eqb-true b 32 test in omega (arith, e, low))

split_word : (word tail : List ℕ) → IsWord word → goes_on tail ≡ false → split (word ++ tail) ≡ word ∷ split tail
split_word [] tail is ends = absurd (let some = is.0 in omega (arith, some))
split_word (b ∷ []) tail is ends =
    ap (λ t. cond t (split tail) (cond (goes_on tail) (push_first b (split tail)) ((b ∷ []) ∷ split tail))) (no_space b (is.1 0 b (omega arith)).0)
    ∙ ap (λ t. cond t (push_first b (split tail)) ((b ∷ []) ∷ split tail)) ends
split_word (b ∷ (c ∷ cs)) tail is ends =
    let rest = (c ∷ cs) ++ tail in
    let front : IsWord (c ∷ cs) = (omega arith, λ k d lt. is.1 (suc k) d (omega (arith, lt))) in
    let on : goes_on rest ≡ true = ap not (no_space c (is.1 1 c (omega arith)).0) in
    ap (λ t. cond t (split rest) (cond (goes_on rest) (push_first b (split rest)) ((b ∷ []) ∷ split rest))) (no_space b (is.1 0 b (omega arith)).0)
    ∙ ap (λ t. cond t (push_first b (split rest)) ((b ∷ []) ∷ split rest)) on
    ∙ ap (push_first b) (split_word (c ∷ cs) tail front ends)

ends_there : (words : List (List ℕ)) → goes_on (spaced words) ≡ false
ends_there [] = refl
ends_there (word ∷ words) = refl

split_spaced : (words : List (List ℕ)) → All IsWord words → split (spaced words) ≡ words
split_spaced [] all = refl
split_spaced (word ∷ words) all = split_word word (spaced words) (all 0 word (omega arith)) (ends_there words) ∙ ap (λ ws. word ∷ ws) (split_spaced words (All-tail IsWord word words all))

pub words_joined : (words : List (List ℕ)) → All IsWord words → words_of (joined words) ≡ words
words_joined [] all = words_split []
words_joined (word ∷ words) all = words_split (word ++ spaced words) ∙ split_word word (spaced words) (all 0 word (omega arith)) (ends_there words) ∙ ap (λ ws. word ∷ ws) (split_spaced words (All-tail IsWord word words all))

-- its bytes are printable

abbrev Printable : ℕ → Type 0
Printable b = (32 ≤ b) × (b ≤ 126)

spaced_printable : (words : List (List ℕ)) → All IsWord words → All Printable (spaced words)
spaced_printable [] all = λ k d lt. absurd (omega (arith, lt))
spaced_printable (word ∷ words) all =
    let is = all 0 word (omega arith) in
    All-cons Printable 32 (word ++ spaced words) (omega arith, omega arith) (All-append Printable word (spaced words) (λ k d lt. (let low = (is.1 k d lt).0 in omega (arith, low), (is.1 k d lt).1)) (spaced_printable words (All-tail IsWord word words all)))

pub joined_printable : (words : List (List ℕ)) → All IsWord words → All Printable (joined words)
joined_printable [] all = λ k d lt. absurd (omega (arith, lt))
joined_printable (word ∷ words) all =
    let is = all 0 word (omega arith) in
    All-append Printable word (spaced words) (λ k d lt. (let low = (is.1 k d lt).0 in omega (arith, low), (is.1 k d lt).1)) (spaced_printable words (All-tail IsWord word words all))

pub none_bad : (at : ℕ) (bs : List ℕ) → All Printable bs → is_some (bad_from at bs) ≡ false
none_bad at [] all = refl
none_bad at (b ∷ bs) all =
    let here = all 0 b (omega arith) in
    let test : is_printable b ≡ true = and_from (nat_le 32 b) (nat_le b 126) (le-leb 32 b here.0) (le-leb b 126 here.1) in
    ap (λ t. is_some (cond t (bad_from (at + 1) bs) (Some (record { place = at })))) test ∙ none_bad (at + 1) bs (All-tail Printable b bs all)

-- and make a line of their own

parts_line : (bs rest : List ℕ) → All Printable bs → parts_of (bs ++ 10 ∷ rest) ≡ bs ∷ parts_of rest
parts_line [] rest all = refl
parts_line (b ∷ bs) rest all =
    let low = (all 0 b (omega arith)).0 in
    let differ : (b == 10) ≡ false = false_from_ne_true (b == 10) (λ test. let e = eqb-true b 10 test in omega (arith, e, low)) in
    ap (λ t. cond t ([] ∷ parts_of (bs ++ 10 ∷ rest)) (begin_with b (parts_of (bs ++ 10 ∷ rest)))) differ ∙ ap (begin_with b) (parts_line bs rest (All-tail Printable b bs all))

not_thirteen : (bs : List ℕ) (i : ℕ) → All Printable bs → (get_or bs i 0 == 13) ≡ false
not_thirteen [] zero all = refl
not_thirteen [] (suc i) all = refl
not_thirteen (b ∷ bs) zero all = let low = (all 0 b (omega arith)).0 in false_from_ne_true (b == 13) (λ test. let e = eqb-true b 13 test in omega (arith, e, low))
not_thirteen (b ∷ bs) (suc i) all = not_thirteen bs i (All-tail Printable b bs all)

kept : (bs : List ℕ) → All Printable bs → without_return bs ≡ bs
kept bs all = ap (λ t. cond t (take (length bs - 1) bs) bs) (not_thirteen bs (length bs - 1) all)

pub lines_are : (lines : List (List (List ℕ))) → All (All IsWord) lines → lines_of (lines_text lines) ≡ map joined lines
lines_are [] all = refl
lines_are (line ∷ lines) all =
    let words = all 0 line (omega arith) in
    let printable = joined_printable line words in
    ap lines_of (ap (λ bs. bs ++ lines_text lines) (line_is line) ∙ append_assoc (joined line) (10 ∷ []) (lines_text lines))
    ∙ ap (map without_return) (parts_line (joined line) (lines_text lines) printable)
    ∙ ap (λ bs. bs ∷ lines_of (lines_text lines)) (kept (joined line) printable)
    ∙ ap (λ ls. joined line ∷ ls) (lines_are lines (All-tail (All IsWord) line lines all))

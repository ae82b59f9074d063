-- The words of a line lie within it.
use Rattle.std.proofs.Common.{◌≡◌, ◌∙◌, ℕ, zero, suc, ◌+◌, ◌-◌, ◌<◌, ◌≤◌, ◌==◌, true, false, cond, List, [], ◌∷◌, ◌++◌, take, drop, map, length, get_or, refl, sym, ap, subst, arith}
use Rattle.std.specs.Borrow.{Bor}
use Rattle.std.proofs.lemmas.List.{map-append, take_more}
use Rattle.vh_text.specs.declared.token.Token.{Token}
use Rattle.vh_text.specs.Tokens.{tokens_from, tokens_of, begin_at, goes_on, texts}

-- all tokens lie between two places
abbrev pub Fits : ℕ → ℕ → List Token → Type 0
Fits low high [] = low ≡ low
Fits low high (token ∷ tokens) = (low ≤ token.from) × (token.from ≤ token.to) × (token.to ≤ high) × Fits low high tokens

wider : (low lower high : ℕ) (tokens : List Token) → lower ≤ low → Fits low high tokens → Fits lower high tokens
wider low lower high [] le fit = refl
wider low lower high (token ∷ tokens) le fit = (let g = fit.0 in omega (arith, le, g), fit.1, fit.2, wider low lower high tokens le fit.3)

begun : (at high : ℕ) (tokens : List Token) → Fits (at + 1) high tokens → Fits at high (begin_at at tokens)
begun at high [] fit = refl
begun at high (token ∷ tokens) fit = (omega arith, (let a = fit.0 in let b = fit.1 in omega (arith, a, b)), fit.2, wider (at + 1) at high tokens (omega arith) fit.3)

fits_from : (at : ℕ) (bs : List ℕ) → Fits at (at + length bs) (tokens_from at bs)
fits_from at [] = refl
fits_from at (b ∷ bs) =
    let e : (at + 1) + length bs ≡ at + suc (length bs) = omega arith in
    let rest : Fits (at + 1) (at + suc (length bs)) (tokens_from (at + 1) bs) = subst (λ h. Fits (at + 1) h (tokens_from (at + 1) bs)) e (fits_from (at + 1) bs) in
    let all = wider (at + 1) at (at + suc (length bs)) (tokens_from (at + 1) bs) (omega arith) rest in
    elim (b == 32) as (λ t. Fits at (at + suc (length bs)) (cond t (tokens_from (at + 1) bs) (cond (goes_on bs) (begin_at at (tokens_from (at + 1) bs)) (record { from = at; to = at + 1 } ∷ tokens_from (at + 1) bs)))) [
      | true ↦ all
      | false ↦ elim (goes_on bs) as (λ t. Fits at (at + suc (length bs)) (cond t (begin_at at (tokens_from (at + 1) bs)) (record { from = at; to = at + 1 } ∷ tokens_from (at + 1) bs))) [
        | true ↦ begun at (at + suc (length bs)) (tokens_from (at + 1) bs) rest
        | false ↦ (omega arith, omega arith, omega arith, all)
      ]
    ]

fits_at : (low high : ℕ) (tokens : List Token) (i : ℕ) (d : Token) → Fits low high tokens → i < length tokens → ((get_or tokens i d).from ≤ (get_or tokens i d).to) × ((get_or tokens i d).to ≤ high)
fits_at low high [] i d fit lt = absurd (omega (arith, lt))
fits_at low high (token ∷ tokens) zero d fit lt = (fit.1, fit.2)
fits_at low high (token ∷ tokens) (suc i) d fit lt = fits_at low high tokens i d fit.3 (omega (arith, lt))

pub within_line : (text : List ℕ) (i : ℕ) (d : Token) → i < length (tokens_of text) → ((get_or (tokens_of text) i d).from ≤ (get_or (tokens_of text) i d).to) × ((get_or (tokens_of text) i d).to ≤ length text)
within_line text i d lt =
    let all = fits_at 0 (0 + length text) (tokens_of text) i d (fits_from 0 text) lt in
    (all.0, let e = all.1 in omega (arith, e))

-- the words so far, and a further one
pub one_word : (text : List ℕ) (tokens : List Token) (words : List (Bor (List ℕ))) (word : Bor (List ℕ)) (i : ℕ) (d : Token) → i < length tokens
    → texts words ≡ map (λ (token : Token). take (token.to - token.from) (drop token.from text)) (take i tokens)
    → word.now ≡ take ((get_or tokens i d).to - (get_or tokens i d).from) (drop (get_or tokens i d).from text)
    → texts (words ++ word ∷ []) ≡ map (λ (token : Token). take (token.to - token.from) (drop token.from text)) (take (i + 1) tokens)
one_word text tokens words word i d lt before is =
    let f : Token → List ℕ = λ token. take (token.to - token.from) (drop token.from text) in
    map-append (λ (w : Bor (List ℕ)). w.now) words (word ∷ [])
    ∙ ap (λ ts. ts ++ word.now ∷ []) before
    ∙ ap (λ t. map f (take i tokens) ++ t ∷ []) is
    ∙ sym (map-append f (take i tokens) (get_or tokens i d ∷ []))
    ∙ sym (ap (λ ts. map f ts) (take_more tokens i d lt))

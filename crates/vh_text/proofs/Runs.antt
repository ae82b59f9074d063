-- The words of a line are its runs of bytes other than space.
use Rattle.std.proofs.Common.{◌≡◌, ◌≢◌, ℕ, zero, suc, ◌+◌, ◌<◌, ◌≤◌, ◌==◌, true, false, not, cond, true≢false, List, [], ◌∷◌, length, get_or, refl, sym, subst, arith}
use Rattle.std.specs.Prelude.{All}
use Rattle.std.proofs.lemmas.Bool.{eqb-true, eqb-false}
use Rattle.std.proofs.lemmas.List.Elements.{All-cons}
use Rattle.vh_text.specs.declared.token.Token.{Token}
use Rattle.vh_text.specs.Laws.{Covers, IsCovered, WordsAreRuns}
use Rattle.vh_text.specs.Tokens.{tokens_from, begin_at, goes_on}
use Rattle.vh_text.proofs.Split.{FirstAt, first_at}

abbrev one_at : ℕ → Token
one_at at = record { from = at; to = at + 1 }

abbrev from_at : ℕ → Token → Token
from_at at token = record { from = at; to = token.to }

begun : (P Q : Token → Type 0) (at : ℕ) (tokens : List Token) → ((token : Token) → Q token → P token) → ((token : Token) → token.from ≡ at + 1 → Q token → P (from_at at token)) → FirstAt (at + 1) tokens → All Q tokens → All P (begin_at at tokens)
begun P Q at [] weaken first begins all = absurd begins
begun P Q at (token ∷ tokens) weaken first begins all = All-cons P (from_at at token) tokens (first token begins.0 (all 0 token (omega arith))) (λ k d lt. weaken (get_or tokens k d) (all (suc k) d (omega (arith, lt))))

-- what holds of all tokens with one byte more at the front, by what that byte is
told : (P Q : Token → Type 0) (at b : ℕ) (bs : List ℕ) → All Q (tokens_from (at + 1) bs) → ((token : Token) → Q token → P token) → ((b == 32) ≡ false → P (one_at at)) → ((b == 32) ≡ false → (token : Token) → token.from ≡ at + 1 → Q token → P (from_at at token)) → All P (tokens_from at (b ∷ bs))
told P Q at b bs all weaken one first =
    let rest = tokens_from (at + 1) bs in
    let weaker : All P rest = λ k d lt. weaken (get_or rest k d) (all k d lt) in
    elim (b == 32) as (λ t. (b == 32) ≡ t → All P (cond t rest (cond (goes_on bs) (begin_at at rest) (one_at at ∷ rest)))) [
      | true ↦ λ test. weaker
      | false ↦ λ test. elim (goes_on bs) as (λ t. goes_on bs ≡ t → All P (cond t (begin_at at rest) (one_at at ∷ rest))) [
        | true ↦ λ on. begun P Q at rest weaken (first test) (first_at (at + 1) bs on) all
        | false ↦ λ on. All-cons P (one_at at) rest (one test) weaker
      ] refl
    ] refl

-- within these places, and with a byte
abbrev pub Fills : ℕ → ℕ → Token → Type 0
Fills low high token = (low ≤ token.from) × (token.from < token.to) × (token.to ≤ high)

all_fill : (at : ℕ) (bs : List ℕ) → All (Fills at (at + length bs)) (tokens_from at bs)
all_fill at [] = λ k d lt. absurd (omega (arith, lt))
all_fill at (b ∷ bs) =
    told (Fills at (at + suc (length bs))) (Fills (at + 1) ((at + 1) + length bs)) at b bs (all_fill (at + 1) bs)
    (λ token is. (let low = is.0 in omega (arith, low), is.1, let high = is.2 in omega (arith, high)))
    (λ word. (omega arith, omega arith, omega arith))
    (λ word token begins is. (omega arith, (let low = is.0 in let some = is.1 in omega (arith, low, some)), let high = is.2 in omega (arith, high)))

-- no byte of a token is a space
abbrev IsFull : ℕ → List ℕ → Token → Type 0
IsFull at bs token = (k e : ℕ) → token.from ≤ at + k → at + k < token.to → get_or bs k e ≢ 32

full_byte : (at b : ℕ) (bs : List ℕ) (token : Token) → (token.from ≤ at → b ≢ 32) → ((k e : ℕ) → token.from ≤ (at + 1) + k → (at + 1) + k < token.to → get_or bs k e ≢ 32) → IsFull at (b ∷ bs) token
full_byte at b bs token here rest zero e low high = here (omega (arith, low))
full_byte at b bs token here rest (suc k) e low high = rest k e (omega (arith, low)) (omega (arith, high))

all_full : (at : ℕ) (bs : List ℕ) → All (λ token. (at ≤ token.from) × IsFull at bs token) (tokens_from at bs)
all_full at [] = λ k d lt. absurd (omega (arith, lt))
all_full at (b ∷ bs) =
    told (λ token. (at ≤ token.from) × IsFull at (b ∷ bs) token) (λ token. ((at + 1) ≤ token.from) × IsFull (at + 1) bs token) at b bs (all_full (at + 1) bs)
    (λ token is. let low = is.0 in (omega (arith, low), full_byte at b bs token (λ le. absurd (omega (arith, low, le))) is.1))
    (λ word. (omega arith, full_byte at b bs (one_at at) (λ le. eqb-false b 32 word) (λ k e low high. absurd (omega (arith, high)))))
    (λ word token begins is. (omega arith, full_byte at b bs (from_at at token) (λ le. eqb-false b 32 word) (λ k e low high. is.1 k e (omega (arith, begins)) high)))

-- a place that is no space's is covered

later : (token : Token) (tokens : List Token) (place : ℕ) → IsCovered tokens place → IsCovered (token ∷ tokens) place
later token tokens place is = (suc is.0, (let lt = is.1 in omega (arith, lt)), is.2)

first : (token : Token) (tokens : List Token) (place : ℕ) → Covers token place → IsCovered (token ∷ tokens) place
first token tokens place is = (0, omega arith, λ d. is)

earlier : (at : ℕ) (tokens : List Token) (place : ℕ) → at ≤ place → IsCovered tokens place → IsCovered (begin_at at tokens) place
earlier at [] place le is = is
earlier at (token ∷ tokens) place le is = elim is.0 as (λ k. k < suc (length tokens) → ((d : Token) → Covers (get_or (token ∷ tokens) k d) place) → IsCovered (from_at at token ∷ tokens) place) [
  | zero ↦ λ lt covers. first (from_at at token) tokens place (le, (covers token).1)
  | suc k ↦ λ lt covers. (suc k, lt, covers)
] is.1 is.2

begins_here : (at : ℕ) (tokens : List Token) → FirstAt (at + 1) tokens → IsCovered (begin_at at tokens) at
begins_here at [] begins = absurd begins
begins_here at (token ∷ tokens) begins = first (from_at at token) tokens at (omega arith, let lt = begins.1 in omega (arith, lt))

covered : (at : ℕ) (bs : List ℕ) (k e : ℕ) → k < length bs → get_or bs k e ≢ 32 → IsCovered (tokens_from at bs) (at + k)
covered at [] k e lt other = absurd (omega (arith, lt))
covered at (b ∷ bs) k e lt other =
    let rest = tokens_from (at + 1) bs in
    elim k as (λ k. k < suc (length bs) → get_or (b ∷ bs) k e ≢ 32 → IsCovered (cond (b == 32) rest (cond (goes_on bs) (begin_at at rest) (one_at at ∷ rest))) (at + k)) [
      | zero ↦ λ l differs. elim (b == 32) as (λ t. (b == 32) ≡ t → IsCovered (cond t rest (cond (goes_on bs) (begin_at at rest) (one_at at ∷ rest))) (at + 0)) [
        | true ↦ λ test. absurd (differs (eqb-true b 32 test))
        | false ↦ λ test. elim (goes_on bs) as (λ t. goes_on bs ≡ t → IsCovered (cond t (begin_at at rest) (one_at at ∷ rest)) (at + 0)) [
          | true ↦ λ on. subst (λ n. IsCovered (begin_at at rest) n) (let e : at ≡ at + 0 = omega arith in e) (begins_here at rest (first_at (at + 1) bs on))
          | false ↦ λ on. first (one_at at) rest (at + 0) (omega arith, omega arith)
        ] refl
      ] refl
      | suc j ↦ λ l differs.
          let found : IsCovered rest (at + suc j) = subst (λ n. IsCovered rest n) (let e : (at + 1) + j ≡ at + suc j = omega arith in e) (covered (at + 1) bs j e (omega (arith, l)) differs) in
          elim (b == 32) as (λ t. IsCovered (cond t rest (cond (goes_on bs) (begin_at at rest) (one_at at ∷ rest))) (at + suc j)) [
            | true ↦ found
            | false ↦ elim (goes_on bs) as (λ t. IsCovered (cond t (begin_at at rest) (one_at at ∷ rest)) (at + suc j)) [
              | true ↦ earlier at rest (at + suc j) (omega arith) found
              | false ↦ later (one_at at) rest (at + suc j) found
            ]
          ]
    ] lt other

-- between two tokens there is a place

abbrev AreApart : List Token → Type 0
AreApart tokens = (i : ℕ) (d : Token) → suc i < length tokens → (get_or tokens i d).to < (get_or tokens (suc i) d).from

one_apart : (token : Token) (tokens : List Token) → All (λ other. token.to < other.from) tokens → AreApart tokens → AreApart (token ∷ tokens)
one_apart token tokens all apart zero d lt = all 0 d (omega (arith, lt))
one_apart token tokens all apart (suc i) d lt = apart i d (omega (arith, lt))

begun_apart : (at : ℕ) (tokens : List Token) → AreApart tokens → AreApart (begin_at at tokens)
begun_apart at [] apart i d lt = apart i d lt
begun_apart at (token ∷ tokens) apart zero d lt = apart 0 d lt
begun_apart at (token ∷ tokens) apart (suc i) d lt = apart (suc i) d lt

-- where no word goes on the next begins later
behind : (at : ℕ) (bs : List ℕ) → goes_on bs ≡ false → All (λ token. at < token.from) (tokens_from at bs)
behind at [] on = λ k d lt. absurd (omega (arith, lt))
behind at (b ∷ bs) on =
    let rest = tokens_from (at + 1) bs in
    elim (b == 32) as (λ t. not t ≡ false → All (λ token. at < token.from) (cond t rest (cond (goes_on bs) (begin_at at rest) (one_at at ∷ rest)))) [
      | true ↦ λ ends. λ k d lt. let is = all_fill (at + 1) bs k d lt in let low = is.0 in omega (arith, low)
      | false ↦ λ ends. absurd (true≢false ends)
    ] on

apart_from : (at : ℕ) (bs : List ℕ) → AreApart (tokens_from at bs)
apart_from at [] = λ i d lt. absurd (omega (arith, lt))
apart_from at (b ∷ bs) =
    let rest = tokens_from (at + 1) bs in
    elim (b == 32) as (λ t. AreApart (cond t rest (cond (goes_on bs) (begin_at at rest) (one_at at ∷ rest)))) [
      | true ↦ apart_from (at + 1) bs
      | false ↦ elim (goes_on bs) as (λ t. goes_on bs ≡ t → AreApart (cond t (begin_at at rest) (one_at at ∷ rest))) [
        | true ↦ λ on. begun_apart at rest (apart_from (at + 1) bs)
        | false ↦ λ on. one_apart (one_at at) rest (behind (at + 1) bs on) (apart_from (at + 1) bs)
      ] refl
    ]

pub law_runs : WordsAreRuns
law_runs line = record {
  filled = λ k d lt. let is = all_fill 0 line k d lt in (is.1, let high = is.2 in omega (arith, high));
  covers = λ place d lt. (
    (λ other. subst (λ n. IsCovered (tokens_from 0 line) n) (let e : 0 + place ≡ place = omega arith in e) (covered 0 line place d lt other)),
    (λ is. let e = one_at 0 in let covers = is.2 e in let low = covers.0 in let high = covers.1 in (all_full 0 line is.0 e is.1).1 place d (omega (arith, low)) (omega (arith, high))),
  );
  apart = apart_from 0 line;
}

-- Pieces end to end, and what stands at their starts.
use Rattle.std.proofs.Common.{◌≡◌, ◌∙◌, ◌⊎◌, inl, inr, ℕ, zero, suc, ◌+◌, ◌<◌, ◌≤◌, Bool, true, false, ◌==◌, cond, nat_lt, List, [], ◌∷◌, ◌++◌, length, filter, get_or, take, refl, sym, ap, arith}
use Rattle.std.specs.Prelude.{All, AllPairs, Contains}
use Rattle.std.specs.List.{AllByRecursion}
use Rattle.std.proofs.lemmas.Bool.{eq-eqb, ne_eqb, lt-ltb, le-ltb, ltb-true, cases_order}
use Rattle.std.proofs.lemmas.List.{get_or_default}
use Rattle.std.proofs.lemmas.List.Elements.{recursion_from_All}
use Rattle.std.proofs.lemmas.List.Sums.{sum_by-cons}
use Rattle.vh_cut.specs.declared.piece.Piece.{Piece}
use Rattle.vh_cut.specs.Laws.{samples_of, LieEndToEnd}
use Rattle.vh_journal.specs.declared.entry.Entry.{Entry}
use Rattle.vh_legal.specs.Blocks.{starts_of}

-- these pieces lie end to end from `at` on to the last sample, and none is empty
abbrev pub AreTiles : ℕ → ℕ → List Piece → Type 0
AreTiles samples at [] = at ≡ samples
AreTiles samples at (piece ∷ pieces) = (piece.start ≡ at) × (1 ≤ piece.length) × AreTiles samples (at + piece.length) pieces

tiles_from : (samples at : ℕ) (pieces : List Piece) → ((i : ℕ) (d : Piece) → i < length pieces → (get_or pieces i d).start ≡ at + samples_of (take i pieces))
    → at + samples_of pieces ≡ samples → ((i : ℕ) (d : Piece) → i < length pieces → 1 ≤ (get_or pieces i d).length) → AreTiles samples at pieces
tiles_from samples at [] begin cover filled = omega (arith, cover)
tiles_from samples at (piece ∷ pieces) begin cover filled =
    let first = begin 0 piece (omega arith) in
    let all = sum_by-cons (λ (p : Piece). p.length) piece pieces in (
      omega (arith, first),
      filled 0 piece (omega arith),
      tiles_from samples (at + piece.length) pieces
          (λ i d lt.
          let next = begin (suc i) d (omega (arith, lt)) in
          let some = sum_by-cons (λ (p : Piece). p.length) piece (take i pieces) in
          omega (arith, next, some))
          (omega (arith, cover, all)) (λ i d lt. filled (suc i) d (omega (arith, lt))),
    )

pub tiles : (samples : ℕ) (pattern stops : List ℕ) (k at : ℕ) (pieces : List Piece) → LieEndToEnd samples pattern stops k at pieces → AreTiles samples at pieces
tiles samples pattern stops k at pieces lie = tiles_from samples at pieces lie.begin lie.cover lie.filled

pub ends_behind : (samples at : ℕ) (pieces : List Piece) → AreTiles samples at pieces → at ≤ samples
ends_behind samples at [] are = omega (arith, are)
ends_behind samples at (piece ∷ pieces) are = let rest = ends_behind samples (at + piece.length) pieces are.2 in omega (arith, rest)

-- a sample is one of these
abbrev pub IsAmong : List ℕ → ℕ → Type 0
IsAmong [] s = ⊥
IsAmong (first ∷ list) s = (s ≡ first) ⊎ IsAmong list s

among_at : (list : List ℕ) (s k : ℕ) → k < length list → get_or list k 0 ≡ s → IsAmong list s
among_at [] s k lt is = absurd (omega (arith, lt))
among_at (first ∷ list) s zero lt is = inl (sym is)
among_at (first ∷ list) s (suc k) lt is = inr (among_at list s k (omega (arith, lt)) is)

pub among : (list : List ℕ) (s : ℕ) → Contains list s → IsAmong list s
among list s has = among_at list s has.0 has.1 (get_or_default list has.0 0 s has.1 ∙ has.2)

starts_behind : (samples at : ℕ) (pieces : List Piece) (s : ℕ) → AreTiles samples at pieces → IsAmong (starts_of pieces) s → at ≤ s
starts_behind samples at [] s are is = absurd is
starts_behind samples at (piece ∷ pieces) s are is = elim is [
  | inl here ↦ let start = are.0 in omega (arith, here, start)
  | inr later ↦ let rest = starts_behind samples (at + piece.length) pieces s are.2 later in omega (arith, rest)
]

-- an entry stands at the end, or where a piece begins
abbrev pub IsPlaced : ℕ → List Piece → Entry → Type 0
IsPlaced samples pieces entry = (entry.sample ≡ samples) ⊎ IsAmong (starts_of pieces) entry.sample

-- samples never fall
abbrev pub AreRising : List Entry → Type 0
AreRising [] = Unit {0}
AreRising (entry ∷ entries) = AllByRecursion (λ later. entry.sample ≤ later.sample) entries × AreRising entries

above : (entry : Entry) (entries : List Entry) → All (λ later. entry.sample ≤ later.sample) entries → AllByRecursion (λ later. entry.sample ≤ later.sample) entries
above entry entries all = recursion_from_All (λ (later : Entry). entry.sample ≤ later.sample) entries all

pub rising : (entries : List Entry) → AllPairs (λ entry later. entry.sample ≤ later.sample) entries → AreRising entries
rising [] pairs = tt
rising (entry ∷ entries) pairs = (above entry entries (λ k d lt. pairs 0 (suc k) d (omega arith) (omega (arith, lt))), rising entries (λ i j d lt within. pairs (suc i) (suc j) d (omega (arith, lt)) (omega (arith, within))))

-- what stands at a sample, and behind it
abbrev pub at_sample : ℕ → List Entry → List Entry
at_sample s entries = filter (λ entry. entry.sample == s) entries

abbrev pub behind : ℕ → List Entry → List Entry
behind s entries = filter (λ entry. nat_lt s entry.sample) entries

abbrev pub AllFrom : ℕ → List Entry → Type 0
AllFrom s entries = AllByRecursion (λ entry. s ≤ entry.sample) entries

abbrev pub AllBefore : ℕ → List Entry → Type 0
AllBefore s entries = AllByRecursion (λ entry. entry.sample < s) entries

pub none_at : (s : ℕ) (entries : List Entry) → AllBefore s entries → at_sample s entries ≡ []
none_at s [] all = refl
none_at s (entry ∷ entries) all =
    let below = all.0 in
    ap (λ t. cond t (entry ∷ at_sample s entries) (at_sample s entries)) (ne_eqb entry.sample s (λ e. omega (arith, e, below))) ∙ none_at s entries all.1

all_behind : (s bound : ℕ) (entries : List Entry) → s < bound → AllByRecursion (λ entry. bound ≤ entry.sample) entries → (at_sample s entries ≡ []) × (behind s entries ≡ entries)
all_behind s bound [] less all = (refl, refl)
all_behind s bound (entry ∷ entries) less all =
    let far = all.0 in
    let rest = all_behind s bound entries less all.1 in (
      ap (λ t. cond t (entry ∷ at_sample s entries) (at_sample s entries)) (ne_eqb entry.sample s (λ e. omega (arith, e, far, less))) ∙ rest.0,
      ap (λ t. cond t (entry ∷ behind s entries) (behind s entries)) (lt-ltb s entry.sample (omega (arith, far, less))) ∙ ap (λ (es : List Entry). entry ∷ es) rest.1,
    )

-- rising entries from a sample on are those at it, and then those behind it
pub cut_at : (s : ℕ) (entries : List Entry) → AreRising entries → AllFrom s entries → entries ≡ at_sample s entries ++ behind s entries
cut_at s [] rises from = refl
cut_at s (entry ∷ entries) rises from = elim (cases_order s entry.sample) [
  | inl same ↦
      ap (λ (es : List Entry). entry ∷ es) (cut_at s entries rises.1 from.1)
      ∙ ap (λ t. cond t (entry ∷ at_sample s entries) (at_sample s entries) ++ behind s entries) (sym (eq-eqb entry.sample s (sym same)))
      ∙ ap (λ t. at_sample s (entry ∷ entries) ++ cond t (entry ∷ behind s entries) (behind s entries)) (sym (le-ltb s entry.sample (omega (arith, same))))
  | inr apart ↦ elim apart [
    | inl below ↦
        let rest = all_behind s entry.sample entries below rises.0 in
        ap (λ (es : List Entry). entry ∷ es) (sym rest.1)
        ∙ ap (λ (es : List Entry). es ++ entry ∷ behind s entries) (sym rest.0)
        ∙ ap (λ t. cond t (entry ∷ at_sample s entries) (at_sample s entries) ++ entry ∷ behind s entries) (sym (ne_eqb entry.sample s (λ e. omega (arith, e, below))))
        ∙ ap (λ t. at_sample s (entry ∷ entries) ++ cond t (entry ∷ behind s entries) (behind s entries)) (sym (lt-ltb s entry.sample below))
    | inr above ↦ let first = from.0 in absurd (omega (arith, above, first))
  ]
]

-- what is left of a list keeps what its entries keep
pub filter_keeps : (P : Entry → Type 0) (test : Entry → Bool) (entries : List Entry) → AllByRecursion P entries → AllByRecursion P (filter test entries)
filter_keeps P test [] all = tt
filter_keeps P test (entry ∷ entries) all = elim (test entry) as (λ t. AllByRecursion P (cond t (entry ∷ filter test entries) (filter test entries))) [
  | true ↦ (all.0, filter_keeps P test entries all.1)
  | false ↦ filter_keeps P test entries all.1
]

pub filter_rises : (test : Entry → Bool) (entries : List Entry) → AreRising entries → AreRising (filter test entries)
filter_rises test [] rises = tt
filter_rises test (entry ∷ entries) rises = elim (test entry) as (λ t. AreRising (cond t (entry ∷ filter test entries) (filter test entries))) [
  | true ↦ (filter_keeps (λ later. entry.sample ≤ later.sample) test entries rises.0, filter_rises test entries rises.1)
  | false ↦ filter_rises test entries rises.1
]

-- what passes a test does
pub filter_passes : (P : Entry → Type 0) (test : Entry → Bool) → ((entry : Entry) → test entry ≡ true → P entry) → (entries : List Entry) → AllByRecursion P (filter test entries)
filter_passes P test each [] = tt
filter_passes P test each (entry ∷ entries) = elim (test entry) as (λ t. test entry ≡ t → AllByRecursion P (cond t (entry ∷ filter test entries) (filter test entries))) [
  | true ↦ λ is. (each entry is, filter_passes P test each entries)
  | false ↦ λ is. filter_passes P test each entries
] refl

-- What is placed behind the start of a piece is placed where a later piece begins, or at the end.
pub placed_behind : (samples at : ℕ) (piece : Piece) (pieces : List Piece) (entries : List Entry) → AreTiles samples at (piece ∷ pieces) → AllByRecursion (IsPlaced samples (piece ∷ pieces)) entries
    → AllByRecursion (IsPlaced samples pieces) (behind at entries) × AllFrom (at + piece.length) (behind at entries)
placed_behind samples at piece pieces [] are placed = (tt, tt)
placed_behind samples at piece pieces (entry ∷ entries) are placed =
    let rest = placed_behind samples at piece pieces entries are placed.1 in
    let end = ends_behind samples (at + piece.length) pieces are.2 in
    elim (nat_lt at entry.sample) as (λ t. nat_lt at entry.sample ≡ t → AllByRecursion (IsPlaced samples pieces) (cond t (entry ∷ behind at entries) (behind at entries)) × AllFrom (at + piece.length) (cond t (entry ∷ behind at entries) (behind at entries))) [
      | true ↦ λ is.
          let above = ltb-true at entry.sample is in
          elim placed.0 [
            | inl last ↦ ((inl last, rest.0), (omega (arith, last, end), rest.1))
            | inr starts ↦ elim starts [
              | inl here ↦ let start = are.0 in absurd (omega (arith, here, start, above))
              | inr later ↦ ((inr later, rest.0), (starts_behind samples (at + piece.length) pieces entry.sample are.2 later, rest.1))
            ]
          ]
      | false ↦ λ is. rest
    ] refl

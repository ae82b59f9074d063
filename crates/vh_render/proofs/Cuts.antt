-- The pieces of a score.
use Rattle.std.proofs.Common.{◌≡◌, ℕ, zero, suc, ◌+◌, ◌%◌, ◌<◌, ◌≤◌, List, [], ◌∷◌, length, take, get_or, slice_index, Option, Some, None, ◌⊎◌, inl, inr, ⊎_elim, refl, sym, ap, subst, arith}
use Rattle.std.specs.Prelude.{All}
use Rattle.std.specs.List.{cons_option}
use Rattle.std.specs.List.Sorted.{IsNonDecreasing}
use Rattle.std.proofs.lemmas.Bool.{cases_lt}
use Rattle.std.proofs.Math.Seq.{take-length}
use Rattle.std.proofs.lemmas.List.Elements.{All-nil, All-cons, All-head, All-tail, All-weaker}
use Rattle.std.proofs.lemmas.List.Sums.{sum_by_more, sum_by_more_le}
use Rattle.vh_cut.specs.declared.piece.Piece.{Piece}
use Rattle.vh_cut.specs.Cut.{IsPattern, pieces_of}
use Rattle.vh_cut.specs.Laws.{samples_of, IsCrossed, PiecesLieEndToEnd}
use Rattle.vh_journal.specs.declared.entry.Entry.{Entry}
use Rattle.vh_meaning.specs.Rendering.{message_sample, stops}
use Rattle.vh_engine.specs.Kept.{Kept}
use Rattle.vh_render.specs.declared.score.Score.{Score}
use Rattle.vh_render.specs.Playing.{IsScoreOf, IsPieceOf}
use Rattle.vh_render.proofs.Between.{IsUncrossed, message_at}

abbrev pub pieces_in : Score → List Piece
pieces_in score = pieces_of score.length score.pattern.now score.stops.now

-- so many samples lie before a piece
abbrev pub start_in : Score → ℕ → ℕ
start_in score i = samples_of (take i (pieces_in score))

-- a piece, by its place
pub record IsPieceAt (score : Score) (i : ℕ) (piece : Piece) : Type 0 where
  pub start : piece.start ≡ start_in score i
  pub more : start_in score (i + 1) ≡ piece.start + piece.length
  pub some : 1 ≤ piece.length
  pub within : piece.start + piece.length ≤ score.length
  pub sized : piece.length ≤ slice_index score.pattern.now (i % length score.pattern.now)
  pub uncrossed : All (λ stop. ¬ IsCrossed stop piece) score.stops.now

pub piece_at : (lie : PiecesLieEndToEnd) (score : Score) (i : ℕ) (piece : Piece) → IsPattern score.pattern.now → i < length (pieces_in score) → piece ≡ get_or (pieces_in score) i piece → IsPieceAt score i piece
piece_at lie score i piece pattern below is =
    let law = lie score.length score.pattern.now score.stops.now pattern in
    let pieces = pieces_in score in
    let size : piece.length ≡ (get_or pieces i piece).length = ap (λ (p : Piece). p.length) is in
    let from : piece.start ≡ (get_or pieces i piece).start = ap (λ (p : Piece). p.start) is in
    let begun = law.begin i piece below in
    let turn = law.sized i piece below in
    let total = law.cover in
    let next = sum_by_more (λ (p : Piece). p.length) pieces i piece below in
    let fits = sum_by_more_le (λ (p : Piece). p.length) pieces i piece below in
    let P : Piece → Type 0 = λ p. All (λ stop. ¬ IsCrossed stop p) score.stops.now in
    let none : P (get_or pieces i piece) = λ j e lt. law.uncrossed i piece j e below lt in
    let filled = law.filled i piece below in
    record {
      start = omega (arith, from, begun);
      more = omega (arith, next, from, begun, size);
      some = omega (arith, size, filled);
      within = omega (arith, from, begun, size, fits, total);
      sized =
          let Q : ℕ → ℕ → Type 0 = λ n k. n ≤ slice_index score.pattern.now (k % length score.pattern.now) in
          let same : 0 + i ≡ i = omega arith in
          subst (Q piece.length) same (subst (λ n. Q n (0 + i)) (sym size) turn);
      uncrossed = subst P (sym is) none;
    }

-- the last piece ends with the score
pub all_samples : (lie : PiecesLieEndToEnd) (score : Score) → IsPattern score.pattern.now → start_in score (length (pieces_in score)) ≡ score.length
all_samples lie score pattern =
    let law = lie score.length score.pattern.now score.stops.now pattern in
    let total = law.cover in
    let same : samples_of (take (length (pieces_in score)) (pieces_in score)) ≡ samples_of (pieces_in score) = ap samples_of (take-length (pieces_in score)) in
    omega (arith, total, same)

-- there are no more pieces than samples before a place
few_pieces : (pieces : List Piece) (i : ℕ) → ((k : ℕ) (d : Piece) → k < length pieces → 1 ≤ (get_or pieces k d).length) → i ≤ length pieces → i ≤ samples_of (take i pieces)
few_pieces pieces zero filled most = omega arith
few_pieces pieces (suc i) filled most =
    let d : Piece = record { start = 0; length = 0 } in
    let below : i < length pieces = omega (arith, most) in
    let next = sum_by_more (λ (p : Piece). p.length) pieces i d below in
    let some = filled i d below in
    let before = few_pieces pieces i filled (omega (arith, most)) in
    let same : samples_of (take (suc i) pieces) ≡ samples_of (take (i + 1) pieces) = ap (λ n. samples_of (take n pieces)) (let e : suc i ≡ i + 1 = omega arith in e) in
    omega (arith, next, some, before, same)

pub no_more_pieces : (lie : PiecesLieEndToEnd) (score : Score) (i : ℕ) → IsPattern score.pattern.now → i ≤ length (pieces_in score) → i ≤ start_in score i
no_more_pieces lie score i pattern most = few_pieces (pieces_in score) i (lie score.length score.pattern.now score.stops.now pattern).filled most

-- a piece is one of the score's
pub piece_of : (kept : Kept) (score : Score) (i : ℕ) (piece : Piece) → IsScoreOf kept score → IsPieceAt score i piece → IsPieceOf score kept.max piece
piece_of kept score i piece of at =
    let some = of.pattern.some in
    let size : slice_index score.pattern.now (i % length score.pattern.now) ≤ kept.max = of.sizes (i % length score.pattern.now) 0 (omega (arith, some)) in
    let turn = at.sized in
    record {
      some = at.some;
      most = omega (arith, turn, size);
      within = at.within;
      uncrossed = at.uncrossed;
    }

-- what holds of each stop holds of each message's sample
pub at_messages : (P : ℕ → Type 0) (entries : List Entry) → All P (stops entries) → All (λ entry. (t : ℕ) → message_sample entry.sample entry.command ≡ Some t → P t) entries
at_messages P [] all = All-nil (λ (entry : Entry). (t : ℕ) → message_sample entry.sample entry.command ≡ Some t → P t)
at_messages P (entry ∷ entries) all =
    let Q : Entry → Type 0 = λ e. (t : ℕ) → message_sample e.sample e.command ≡ Some t → P t in
    let split : (o : Option ℕ) → All P (cons_option o (stops entries)) → ((t : ℕ) → o ≡ Some t → P t) × All P (stops entries) = λ o. elim o as (λ o. All P (cons_option o (stops entries)) → ((t : ℕ) → o ≡ Some t → P t) × All P (stops entries)) [
      | None ↦ λ rest. ((λ t is. absurd cc), rest)
      | Some s ↦ λ rest. ((λ t is. let same : s ≡ t = cc in subst P same (All-head P s (stops entries) rest)), All-tail P s (stops entries) rest)
    ] in
    let parts = split (message_sample entry.sample entry.command) all in
    All-cons Q entry entries parts.0 (at_messages P entries parts.1)

-- no message stands within a piece, behind its first sample
pub uncrossed_by : (halts : List ℕ) (entries : List Entry) (piece : Piece) → halts ≡ stops entries → All (λ stop. ¬ IsCrossed stop piece) halts → All (IsUncrossed piece.start (piece.start + piece.length)) entries
uncrossed_by halts entries piece are none =
    let P : ℕ → Type 0 = λ t. (t ≤ piece.start) ⊎ (piece.start + piece.length ≤ t) in
    let free : (t : ℕ) → ¬ IsCrossed t piece → P t = λ t not.
    ⊎_elim (λ (behind : piece.start < t). ⊎_elim (λ (below : t < piece.start + piece.length). absurd (not (behind, below))) (λ (past : piece.start + piece.length ≤ t). inr past) (cases_lt t (piece.start + piece.length))) (λ (from : t ≤ piece.start). inl from)
    (cases_lt piece.start t) in
    let Q : List ℕ → Type 0 = λ l. All (λ stop. ¬ IsCrossed stop piece) l in
    at_messages P entries (All-weaker (λ stop. ¬ IsCrossed stop piece) P free (stops entries) (subst Q are none))

-- what holds of each sample holds of each stop
stops_all : (P : ℕ → Type 0) (entries : List Entry) → All (λ entry. P entry.sample) entries → All P (stops entries)
stops_all P [] all = All-nil P
stops_all P (entry ∷ entries) all =
    let here : P entry.sample = All-head (λ (e : Entry). P e.sample) entry entries all in
    let rest = stops_all P entries (All-tail (λ (e : Entry). P e.sample) entry entries all) in
    let joined : (o : Option ℕ) → ((t : ℕ) → o ≡ Some t → t ≡ entry.sample) → All P (cons_option o (stops entries)) = λ o. elim o as (λ o. ((t : ℕ) → o ≡ Some t → t ≡ entry.sample) → All P (cons_option o (stops entries))) [
      | None ↦ λ is. rest
      | Some s ↦ λ is. All-cons P s (stops entries) (subst P (sym (is s refl)) here) rest
    ] in
    joined (message_sample entry.sample entry.command) (λ t is. message_at entry.sample t entry.command is)

-- numbers that don't fall, behind one that none is below
rising_more : (x : ℕ) (xs : List ℕ) → All (λ y. x ≤ y) xs → IsNonDecreasing xs → IsNonDecreasing (x ∷ xs)
rising_more x xs least rising zero zero d le below = omega arith
rising_more x xs least rising zero (suc j) d le below = least j d (omega (arith, below))
rising_more x xs least rising (suc i) zero d le below = absurd (omega (arith, le))
rising_more x xs least rising (suc i) (suc j) d le below = rising i j d (omega (arith, le)) (omega (arith, below))

abbrev pub Rise : List Entry → Type 0
Rise entries = (i j : ℕ) (d : Entry) → i < j → j < length entries → (get_or entries i d).sample ≤ (get_or entries j d).sample

-- the stops don't fall where the entries don't
pub stops_rise : (entries : List Entry) → Rise entries → IsNonDecreasing (stops entries)
stops_rise [] rising = λ i j d le below. absurd (omega (arith, below))
stops_rise (entry ∷ entries) rising =
    let later : All (λ (e : Entry). entry.sample ≤ e.sample) entries = λ k d below. rising zero (suc k) d (omega arith) (omega (arith, below)) in
    let least = stops_all (λ t. entry.sample ≤ t) entries later in
    let rest = stops_rise entries (λ i j d lt below. rising (suc i) (suc j) d (omega (arith, lt)) (omega (arith, below))) in
    let joined : (o : Option ℕ) → ((t : ℕ) → o ≡ Some t → t ≡ entry.sample) → IsNonDecreasing (cons_option o (stops entries)) = λ o. elim o as (λ o. ((t : ℕ) → o ≡ Some t → t ≡ entry.sample) → IsNonDecreasing (cons_option o (stops entries))) [
      | None ↦ λ is. rest
      | Some s ↦ λ is. let P : ℕ → Type 0 = λ m. All (λ t. m ≤ t) (stops entries) in rising_more s (stops entries) (subst P (sym (is s refl)) least) rest
    ] in
    joined (message_sample entry.sample entry.command) (λ t is. message_at entry.sample t entry.command is)

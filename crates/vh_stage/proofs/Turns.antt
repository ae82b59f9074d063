-- The turns of the loop over the pieces of a session, which nothing stops.
use Rattle.std.proofs.Common.{◌≡◌, ◌∙◌, ℕ, zero, suc, ◌+◌, ◌%◌, ◌<◌, ◌≤◌, List, [], length, take, get_or, slice_index, Option, Some, None, inr, sym, ap, subst, arith}
use Rattle.std.specs.Iterator.{Yields, YieldsFirst}
use Rattle.std.proofs.lemmas.Iterator.{YieldsList}
use Rattle.std.proofs.lemmas.Iterator.Consumers.{YieldsList-from_first, YieldsList-turn, YieldsList-end}
use Rattle.std.proofs.Math.Seq.{take-length}
use Rattle.std.specs.Prelude.{Contains}
use Rattle.std.proofs.lemmas.List.{get_or-map, length-map}
use Rattle.std.proofs.lemmas.List.Elements.{Contains-get_or}
use Rattle.vh_legal.specs.Blocks.{IsAtBlock, starts_of}
use Rattle.std.proofs.lemmas.List.Sums.{sum_by_more, sum_by_more_le}
use Rattle.vh_cut.specs.declared.piece.Piece.{Piece}
use Rattle.vh_cut.specs.declared.piece.Pieces.{Pieces}
use Rattle.vh_cut.specs.Cut.{IsPattern, pieces_of}
use Rattle.vh_cut.specs.Laws.{samples_of, PiecesLieEndToEnd}
use Rattle.vh_cut.specs.Pieces.{left}

abbrev pub pieces_in : ℕ → List ℕ → List Piece
pieces_in samples pattern = pieces_of samples pattern []

-- so many samples lie before a piece
abbrev pub start_at : ℕ → List ℕ → ℕ → ℕ
start_at samples pattern i = samples_of (take i (pieces_in samples pattern))

-- a piece, by its place
pub record IsPieceAt (samples : ℕ) (pattern : List ℕ) (i : ℕ) (piece : Piece) : Type 0 where
  pub start : piece.start ≡ start_at samples pattern i
  pub more : start_at samples pattern (i + 1) ≡ piece.start + piece.length
  pub some : 1 ≤ piece.length
  pub within : piece.start + piece.length ≤ samples
  pub sized : piece.length ≤ slice_index pattern (i % length pattern)

pub piece_at : (lie : PiecesLieEndToEnd) (samples : ℕ) (pattern : List ℕ) (i : ℕ) (piece : Piece) → IsPattern pattern → i < length (pieces_in samples pattern) → piece ≡ get_or (pieces_in samples pattern) i piece → IsPieceAt samples pattern i piece
piece_at lie samples pattern i piece lawful below is =
    let law = lie samples pattern [] lawful in
    let pieces = pieces_in samples pattern in
    let size : piece.length ≡ (get_or pieces i piece).length = ap (λ (p : Piece). p.length) is in
    let from : piece.start ≡ (get_or pieces i piece).start = ap (λ (p : Piece). p.start) is in
    let begun = law.begin i piece below in
    let turn = law.sized i piece below in
    let total = law.cover in
    let next = sum_by_more (λ (p : Piece). p.length) pieces i piece below in
    let fits = sum_by_more_le (λ (p : Piece). p.length) pieces i piece below in
    let filled = law.filled i piece below in
    record {
      start = omega (arith, from, begun);
      more = omega (arith, next, from, begun, size);
      some = omega (arith, size, filled);
      within = omega (arith, from, begun, size, fits, total);
      sized =
          let Q : ℕ → ℕ → Type 0 = λ n k. n ≤ slice_index pattern (k % length pattern) in
          let same : 0 + i ≡ i = omega arith in
          subst (Q piece.length) same (subst (λ n. Q n (0 + i)) (sym size) turn);
    }

-- the last piece ends with the samples
pub all_samples : (lie : PiecesLieEndToEnd) (samples : ℕ) (pattern : List ℕ) → IsPattern pattern → start_at samples pattern (length (pieces_in samples pattern)) ≡ samples
all_samples lie samples pattern lawful =
    let law = lie samples pattern [] lawful in
    let total = law.cover in
    let same : samples_of (take (length (pieces_in samples pattern)) (pieces_in samples pattern)) ≡ samples_of (pieces_in samples pattern) = ap samples_of (take-length (pieces_in samples pattern)) in
    omega (arith, total, same)

-- there are no more pieces than samples before a place
few_pieces : (pieces : List Piece) (i : ℕ) → ((k : ℕ) (d : Piece) → k < length pieces → 1 ≤ (get_or pieces k d).length) → i ≤ length pieces → i ≤ samples_of (take i pieces)
few_pieces pieces zero filled most = omega arith
few_pieces pieces (suc i) filled most =
    let d : Piece = record { start = 0; length = 0 } in
    let below : i < length pieces = omega (arith, most) in
    let next = sum_by_more (λ (p : Piece). p.length) pieces i d below in
    let some = filled i d below in
    let before = few_pieces pieces i filled (omega (arith, most)) in
    let same : samples_of (take (suc i) pieces) ≡ samples_of (take (i + 1) pieces) = ap (λ n. samples_of (take n pieces)) (let e : suc i ≡ i + 1 = omega arith in e) in
    omega (arith, next, some, before, same)

pub no_more_pieces : (lie : PiecesLieEndToEnd) (samples : ℕ) (pattern : List ℕ) (i : ℕ) → IsPattern pattern → i ≤ length (pieces_in samples pattern) → i ≤ start_at samples pattern i
no_more_pieces lie samples pattern i lawful most = few_pieces (pieces_in samples pattern) i (lie samples pattern [] lawful).filled most

-- a block begins where a piece does
pub at_block : (lie : PiecesLieEndToEnd) (samples : ℕ) (pattern : List ℕ) (i : ℕ) (piece : Piece) → IsPattern pattern → i < length (pieces_in samples pattern) → IsPieceAt samples pattern i piece → IsAtBlock samples pattern piece.start
at_block lie samples pattern i piece lawful below at =
    let pieces = pieces_in samples pattern in
    let begun = (lie samples pattern [] lawful).begin i piece below in
    let start = at.start in
    let long = length-map pieces (λ (p : Piece). p.start) in
    let is : get_or (starts_of pieces) i 0 ≡ piece.start = get_or-map (λ (p : Piece). p.start) pieces i piece 0 below ∙ omega (arith, begun, start) in
    inr (subst (Contains (starts_of pieces)) is (Contains-get_or (starts_of pieces) i 0 (omega (arith, below, long))))

module _ (lie : PiecesLieEndToEnd) (samples : ℕ) (pattern : List ℕ) (made begun now next : Pieces) (yielded : List Piece) (result : Option Piece)
    (same : begun ≡ made) (all : left made ≡ pieces_in samples pattern) (lawful : IsPattern pattern) (so_far : Yields (YieldsFirst left) begun yielded now) (step : YieldsFirst left now result next) where
  road : YieldsList (YieldsFirst left) (λ (x : Piece). x) begun (pieces_in samples pattern)
  road = YieldsList-from_first (λ (x : Piece). x) left (pieces_in samples pattern) (ap left same ∙ all)

  -- there is a further piece, which is the next
  pub turn_at : (piece : Piece) → result ≡ Some piece → (length yielded < length (pieces_in samples pattern)) × IsPieceAt samples pattern (length yielded) piece
  turn_at piece is =
      let turn = YieldsList-turn road yielded now so_far result next piece is step in
      (turn.0, piece_at lie samples pattern (length yielded) piece lawful turn.0 turn.1)

  -- there is none: all pieces were played
  pub turns_end : result ≡ None → (length yielded ≡ length (pieces_in samples pattern)) × (start_at samples pattern (length yielded) ≡ samples)
  turns_end is =
      let end = YieldsList-end road yielded now so_far result next is step in
      (end.1, ap (start_at samples pattern) end.1 ∙ all_samples lie samples pattern lawful)

-- The turns of a loop over the pieces of frames in memory.
use Rattle.std.proofs.Common.{◌≡◌, ◌∙◌, ℕ, zero, suc, ◌+◌, ◌%◌, ◌<◌, ◌≤◌, List, [], length, take, get_or, Option, Some, None, ap, arith}
use Rattle.std.specs.Iterator.{Yields, YieldsFirst}
use Rattle.std.specs.List.Sorted.{IsNonDecreasing}
use Rattle.std.proofs.lemmas.Iterator.{YieldsList}
use Rattle.std.proofs.lemmas.Iterator.Consumers.{YieldsList-from_first, YieldsList-turn, YieldsList-end}
use Rattle.std.proofs.Math.Seq.{take-length}
use Rattle.std.proofs.lemmas.List.Sums.{sum_by_more, sum_by_more_le}
use Rattle.vh_cut.specs.declared.piece.Piece.{Piece}
use Rattle.vh_cut.specs.declared.piece.Pieces.{Pieces}
use Rattle.vh_cut.specs.Cut.{IsPattern, pieces_of}
use Rattle.vh_cut.specs.Laws.{samples_of, PiecesLieEndToEnd}
use Rattle.vh_cut.specs.Pieces.{left}

-- so many frames lie before a piece
abbrev pub start_at : ℕ → List ℕ → ℕ → ℕ
start_at frames sizes i = samples_of (take i (pieces_of frames sizes []))

-- a piece, by its place
pub record IsPieceAt (frames : ℕ) (sizes : List ℕ) (i : ℕ) (piece : Piece) : Type 0 where
  pub start : piece.start ≡ start_at frames sizes i
  pub more : start_at frames sizes (i + 1) ≡ piece.start + piece.length
  pub within : piece.start + piece.length ≤ frames
  pub few : piece.length ≤ 8192

-- no number falls where there is none
pub none_fall : IsNonDecreasing []
none_fall i j d le below = absurd (omega (arith, below))

module _ (lie : PiecesLieEndToEnd) (frames : ℕ) (sizes : List ℕ) (pattern : IsPattern sizes) where
  piece_at : (i : ℕ) (piece : Piece) → i < length (pieces_of frames sizes []) → piece ≡ get_or (pieces_of frames sizes []) i piece → IsPieceAt frames sizes i piece
  piece_at i piece below is =
      let law = lie frames sizes [] pattern in
      let pieces = pieces_of frames sizes [] in
      let size : piece.length ≡ (get_or pieces i piece).length = ap (λ (p : Piece). p.length) is in
      let from : piece.start ≡ (get_or pieces i piece).start = ap (λ (p : Piece). p.start) is in
      let begun = law.begin i piece below in
      let turn = law.sized i piece below in
      let total = law.cover in
      let next = sum_by_more (λ (p : Piece). p.length) pieces i piece below in
      let fits = sum_by_more_le (λ (p : Piece). p.length) pieces i piece below in
      let some = pattern.some in
      let each = (pattern.sizes ((0 + i) % length sizes) 0 (omega (arith, some))).1 in
      record {
        start = omega (arith, from, begun);
        more = omega (arith, next, from, begun, size);
        within = omega (arith, from, begun, size, fits, total);
        few = omega (arith, turn, size, each);
      }

  -- all frames are those of the pieces
  pub all_frames : start_at frames sizes (length (pieces_of frames sizes [])) ≡ frames
  all_frames =
      let total = (lie frames sizes [] pattern).cover in
      let same : samples_of (take (length (pieces_of frames sizes [])) (pieces_of frames sizes [])) ≡ samples_of (pieces_of frames sizes []) = ap samples_of (take-length (pieces_of frames sizes [])) in
      omega (arith, total, same)

  few_pieces : (pieces : List Piece) (i : ℕ) → ((k : ℕ) (d : Piece) → k < length pieces → 1 ≤ (get_or pieces k d).length) → i ≤ length pieces → i ≤ samples_of (take i pieces)
  few_pieces pieces zero filled most = omega arith
  few_pieces pieces (suc i) filled most =
      let d : Piece = record { start = 0; length = 0 } in
      let below : i < length pieces = omega (arith, most) in
      let next = sum_by_more (λ (p : Piece). p.length) pieces i d below in
      let some = filled i d below in
      let before = few_pieces pieces i filled (omega (arith, most)) in
      let same : samples_of (take (suc i) pieces) ≡ samples_of (take (i + 1) pieces) = ap (λ n. samples_of (take n pieces)) (let e : suc i ≡ i + 1 = omega arith in e) in
      omega (arith, next, some, before, same)

  -- there are no more pieces than frames before a place
  pub no_more_pieces : (i : ℕ) → i ≤ length (pieces_of frames sizes []) → i ≤ start_at frames sizes i
  no_more_pieces i most = few_pieces (pieces_of frames sizes []) i (lie frames sizes [] pattern).filled most

  module _ (made begun now next : Pieces) (yielded : List Piece) (result : Option Piece)
      (same : begun ≡ made) (all : left made ≡ pieces_of frames sizes []) (so_far : Yields (YieldsFirst left) begun yielded now) (step : YieldsFirst left now result next) where
    road : YieldsList (YieldsFirst left) (λ (x : Piece). x) begun (pieces_of frames sizes [])
    road = YieldsList-from_first (λ (x : Piece). x) left (pieces_of frames sizes []) (ap left same ∙ all)

    -- there is a further piece, which is the next
    pub turn_at : (piece : Piece) → result ≡ Some piece → (length yielded < length (pieces_of frames sizes [])) × IsPieceAt frames sizes (length yielded) piece
    turn_at piece is =
        let turn = YieldsList-turn road yielded now so_far result next piece is step in
        (turn.0, piece_at (length yielded) piece turn.0 turn.1)

    -- there is none: all pieces were written
    pub turns_end : result ≡ None → (length yielded ≡ length (pieces_of frames sizes [])) × (start_at frames sizes (length yielded) ≡ frames)
    turns_end is =
        let end = YieldsList-end road yielded now so_far result next is step in
        (end.1, ap (start_at frames sizes) end.1 ∙ all_frames)

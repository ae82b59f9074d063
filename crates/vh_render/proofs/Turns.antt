-- The turns of a loop over the pieces of a score.
use Rattle.std.proofs.Common.{◌≡◌, ◌∙◌, ◌<◌, List, length, Option, Some, None, ap}
use Rattle.std.specs.Iterator.{Yields, YieldsFirst}
use Rattle.std.proofs.lemmas.Iterator.{YieldsList}
use Rattle.std.proofs.lemmas.Iterator.Consumers.{YieldsList-from_first, YieldsList-turn, YieldsList-end}
use Rattle.vh_cut.specs.declared.piece.Piece.{Piece}
use Rattle.vh_cut.specs.declared.piece.Pieces.{Pieces}
use Rattle.vh_cut.specs.Cut.{IsPattern}
use Rattle.vh_cut.specs.Laws.{PiecesLieEndToEnd}
use Rattle.vh_cut.specs.Pieces.{left}
use Rattle.vh_render.specs.declared.score.Score.{Score}
use Rattle.vh_render.proofs.Cuts.{IsPieceAt, pieces_in, piece_at, start_in, all_samples}

module _ (lie : PiecesLieEndToEnd) (score : Score) (made begun now next : Pieces) (yielded : List Piece) (result : Option Piece)
    (same : begun ≡ made) (all : left made ≡ pieces_in score) (pattern : IsPattern score.pattern.now) (so_far : Yields (YieldsFirst left) begun yielded now) (step : YieldsFirst left now result next) where
  road : YieldsList (YieldsFirst left) (λ (x : Piece). x) begun (pieces_in score)
  road = YieldsList-from_first (λ (x : Piece). x) left (pieces_in score) (ap left same ∙ all)

  -- there is a further piece, which is the next of the score
  pub turn_at : (piece : Piece) → result ≡ Some piece → (length yielded < length (pieces_in score)) × IsPieceAt score (length yielded) piece
  turn_at piece is =
      let turn = YieldsList-turn road yielded now so_far result next piece is step in
      (turn.0, piece_at lie score (length yielded) piece pattern turn.0 turn.1)

  -- there is none: all pieces were played
  pub turns_end : result ≡ None → (length yielded ≡ length (pieces_in score)) × (start_in score (length yielded) ≡ score.length)
  turns_end is =
      let end = YieldsList-end road yielded now so_far result next is step in
      (end.1, ap (start_in score) end.1 ∙ all_samples lie score pattern)

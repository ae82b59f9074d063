-- What callers see of an iterator over pieces.
use Rattle.std.specs.Prelude.{◌-◌, List}
use Rattle.vh_cut.specs.declared.piece.Piece.{Piece}
use Rattle.vh_cut.specs.declared.piece.Pieces.{Pieces}
use Rattle.vh_cut.specs.Cut.{pieces_from}

-- the pieces that are left
abbrev pub left : Pieces → List Piece
left pieces = pieces_from (pieces.samples - pieces.at) pieces.samples pieces.pattern.now pieces.stops.now pieces.number pieces.at

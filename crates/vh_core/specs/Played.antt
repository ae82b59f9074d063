-- The events by which a machine comes to a journal.
use Rattle.std.specs.Prelude.{ℕ, ◌+◌, ◌*◌, ◌==◌, List, [], ◌∷◌, ◌++◌, length, map, filter}
use Rattle.std.specs.List.{flat_map}
use Rattle.vh_params.specs.declared.command.Word.TheVariants.{Edit}
use Rattle.vh_cut.specs.declared.piece.Piece.{Piece}
use Rattle.vh_cut.specs.Cut.{pieces_of}
use Rattle.vh_journal.specs.declared.entry.Entry.{Entry}
use Rattle.vh_core.specs.declared.event.Event.{Event}
use Rattle.vh_core.specs.declared.event.Event.TheVariants.{Put, Audio, Back, Flush}
use Rattle.vh_core.specs.State.{Setting, at_first}

-- each entry that was recorded at a sample is put by its editor
abbrev pub puts_at : ℕ → List Entry → List Event
puts_at sample entries = map (λ entry. Put entry.editor (Edit entry.command)) (filter (λ entry. entry.sample == sample) entries)

-- where a piece begins, what was recorded there is put; then all is taken, and the piece is rendered
abbrev pub piece_events : List Entry → Piece → List Event
piece_events entries piece = puts_at piece.start entries ++ Audio (length entries) piece.length ∷ []

-- at most so much comes back: behind each sample and at the end a reply to each entry, and a value of each parameter
abbrev pub most_returns : Setting → List Entry → ℕ
most_returns setting entries = (setting.session.length + 1) * (length entries + length (at_first setting))

-- Piece by piece, as the session's sizes cut the rendering where nothing stops it; at the end what was recorded at the
-- length is put, the machine is flushed, and all that comes back reaches the controllers.
abbrev pub played : Setting → List Entry → List Event
played setting entries =
    flat_map (piece_events entries) (pieces_of setting.session.length setting.session.pattern []) ++ puts_at setting.session.length entries ++ Flush ∷ Back (most_returns setting entries) ∷ []

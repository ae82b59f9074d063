-- What printing and reading come to together.
use Rattle.std.specs.Prelude.{◌≡◌, ℕ, ◌<◌, ◌^◌, List, Ok}
use Rattle.vh_params.specs.Nodes.{Node}
use Rattle.vh_journal_text.specs.Items.{Item}
use Rattle.vh_journal_text.specs.Keeps.{AreNamed, AreEntries}
use Rattle.vh_journal_text.specs.Reading.{journal_of}
use Rattle.vh_journal_text.specs.Text.{journal_text}

-- the canonical text of a journal says this journal
abbrev pub PrintedIsRead : Type 0
PrintedIsRead = (nodes : List Node) (most : ℕ) (items : List Item) → AreNamed nodes → most < 2 ^ 32 → AreEntries nodes most items
    → journal_of nodes most (journal_text nodes items) ≡ Ok items

-- a text that says entries says a journal
abbrev pub ReadIsJournal : Type 0
ReadIsJournal = (nodes : List Node) (most : ℕ) (bytes : List ℕ) (items : List Item) → journal_of nodes most bytes ≡ Ok items → AreEntries nodes most items

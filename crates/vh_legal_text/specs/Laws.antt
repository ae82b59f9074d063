-- What a legal journal's text comes to.
use Rattle.std.specs.Prelude.{◌≡◌, ℕ, List, Ok}
use Rattle.vh_params.specs.Nodes.{Node, nodes_of}
use Rattle.vh_journal.specs.declared.entry.Entry.{Entry}
use Rattle.vh_journal_text.specs.Items.{items_of}
use Rattle.vh_journal_text.specs.Keeps.{AreEntries, AreThere}
use Rattle.vh_journal_text.specs.Reading.{journal_of}
use Rattle.vh_journal_text.specs.Text.{journal_text}
use Rattle.vh_session.specs.declared.session.Session.{Session}
use Rattle.vh_legal.specs.Legal.{IsLegalFor}

-- entries of a rendering of so many samples keep the rules by which a text is read; they can be printed; and their
-- canonical text says them
pub record ReadsBack (nodes : List Node) (samples : ℕ) (entries : List Entry) : Type 0 where
  pub rules : AreEntries nodes samples (items_of entries)
  pub there : AreThere nodes entries
  pub text : journal_of nodes samples (journal_text nodes (items_of entries)) ≡ Ok (items_of entries)

-- so do those of each legal journal
abbrev pub LegalReadsBack : Type 0
LegalReadsBack = (session : Session) (entries : List Entry) → IsLegalFor session entries → ReadsBack (nodes_of session.nodes) session.length entries

-- What the editors of a session did, and what became of their words.
use Rattle.std.specs.Prelude.{◌≡◌, ℕ, List, length, map, Option}
use Rattle.vh_params.specs.Nodes.{Node}
use Rattle.vh_params.specs.declared.command.Word.{Word}
use Rattle.vh_gesture.specs.Scripts.{edits}
use Rattle.vh_journal.specs.declared.entry.Entry.{Entry}
use Rattle.vh_session.specs.declared.session.Session.{Session}
use Rattle.vh_session.specs.Content.{Content}
use Rattle.vh_session.specs.Names.{content_of}
use Rattle.vh_legal.specs.Legal.{IsLegalFor, scripts_of}
use Rattle.vh_answers.specs.declared.report.EditorCounts.{EditorCounts}
use Rattle.vh_editors.specs.Scripts.{refused_in}
use Rattle.vh_host.specs.Commands.{pattern_of}

-- the session that is played: in blocks of the size that words give, or of its own
abbrev pub in_blocks : Option ℕ → Content → Content
in_blocks block content = record content { pattern = pattern_of block content }

-- a session, and the journal of what its editors did
pub record Played : Type 0 where
  pub session : Session
  pub journal : List Entry

-- The session has this content, in such blocks, and in its journal each editor's accepted edits and messages stand once, in
-- its order, where a block begins or at the length.
pub record IsPlayed (block : Option ℕ) (content : Content) (played : Played) : Type 0 where
  pub session : content_of played.session ≡ in_blocks block content
  pub legal : IsLegalFor played.session played.journal

-- of an editor how many edits and messages were accepted, and how many words, the waits aside, were refused
abbrev pub counts_of : List Node → List Word → EditorCounts
counts_of nodes script = record { accepted = length (edits nodes script); refused = refused_in nodes script }

abbrev pub counts_in : List Node → Played → List EditorCounts
counts_in nodes played = map (counts_of nodes) (scripts_of played.session)

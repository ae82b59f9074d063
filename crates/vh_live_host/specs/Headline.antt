-- What a live rendering that was done comes to.
use Rattle.std.specs.Prelude.{◌≡◌, ◌≢◌, ℕ, ◌+◌, ◌*◌, true, List, [], ◌∷◌, length, Option, Some, Ok}
use Rattle.vh_cut.specs.Cut.{pieces_of}
use Rattle.vh_files.specs.Store.{told, SaysMore}
use Rattle.vh_plugin.specs.Counts.{raised_by}
use Rattle.vh_preset.specs.Contents.{Contents}
use Rattle.vh_session.specs.Content.{Content}
use Rattle.vh_session.specs.Names.{content_of}
use Rattle.vh_journal.specs.declared.entry.Entry.{Entry}
use Rattle.vh_journal_text.specs.Items.{items_of}
use Rattle.vh_journal_text.specs.Reading.{journal_of}
use Rattle.vh_journal_text.specs.Text.{journal_text}
use Rattle.vh_legal.specs.Legal.{IsLegalFor}
use Rattle.vh_meaning.specs.Scene.{Scene}
use Rattle.vh_meaning.specs.Rendering.{rendering, last_values, answers, stops}
use Rattle.vh_wav.specs.Text.{wav_text}
use Rattle.vh_answers.specs.Outside.{Store, Outside, ChangesOnly}
use Rattle.vh_answers.specs.Report.{report_text}
use Rattle.vh_answers.specs.Steps.{Gives}
use Rattle.vh_host.specs.Known.{Known, scene_under, modes_under, AreEnded}
use Rattle.vh_host.specs.Input.{Heard}
use Rattle.vh_host.specs.Opened.{IsOpened}
use Rattle.vh_host.specs.Commands.{input_step}
use Rattle.vh_live_host.specs.Words.{Live}
use Rattle.vh_live_host.specs.Played.{Played, in_blocks, counts_in}

-- the input and both outputs have different names
pub record AreApart (live : Live) : Type 0 where
  pub output : live.output ≢ live.input
  pub journal : live.journal ≢ live.input
  pub both : live.journal ≢ live.output

-- what a set counts: the objects that it made and ended, and the calls of those that it ended
pub record Counts : Type 0 where
  pub made : ℕ
  pub ended : ℕ
  pub work : ℕ

-- the files say this session, with these presets of its nodes, and this input
pub record AreRead (old : Store) (known : Known) (live : Live) (content : Content) (presets : List (Option Contents)) (heard : Heard) : Type 0 where
  pub opened : IsOpened old known live.session content presets
  pub input : Gives old (input_step live.input content.channels) heard

-- in how many pieces a session is rendered under these entries
abbrev pub pieces_under : Content → List Entry → ℕ
pieces_under content entries = length (pieces_of content.length content.pattern (stops entries))

-- The session's editors made this journal, which is the one that was written; what was written and said is the rendering
-- over it; and all objects were ended.
pub record IsRendered (scene : Scene) (modes : List ℕ) (live : Live) (content : Content) (heard : Heard) (played : Played) (o : Outside) (old new : Counts) : Type 0 where
  -- the session is the one that was read, in blocks of the size that words give, or of its own
  pub session : content_of played.session ≡ in_blocks live.block content
  pub journal : told o.new.held live.journal ≡ Some (journal_text content.nodes (items_of played.journal))
  pub reads_back : journal_of content.nodes content.length (journal_text content.nodes (items_of played.journal)) ≡ Ok (items_of played.journal)
  pub legal : IsLegalFor played.session played.journal
  pub samples : told o.new.held live.output ≡ Some (wav_text content.channels heard.rate content.bits (rendering scene heard.frames played.journal))
  pub controllers : SaysMore o.said.text o.said_now.text (report_text content (last_values scene heard.frames played.journal) modes
      (pieces_under (in_blocks live.block content) played.journal) (answers scene heard.frames played.journal) (counts_in content.nodes played))
  pub ended : AreEnded old.made old.ended new.made new.ended
  pub cutting : new.work ≡ raised_by (length content.nodes * (pieces_under (in_blocks live.block content) played.journal + 1)) old.work
  pub others : ChangesOnly (live.output ∷ live.journal ∷ []) o.old.held o.new.held

-- so of what the files say, in a store that tells all files, where names differ
abbrev pub Headline : Known → Live → Outside → Counts → Counts → Type 0
Headline known live o old new = AreApart live → o.old.complete ≡ true
    → (content : Content) × (presets : List (Option Contents)) × (heard : Heard) × AreRead o.old known live content presets heard
    × (played : Played) × IsRendered (scene_under known content presets) (modes_under known content presets) live content heard played o old new

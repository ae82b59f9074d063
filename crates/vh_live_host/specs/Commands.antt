-- A live rendering as the list of its steps.
use Rattle.std.specs.Prelude.{◌≡◌, ℕ, ◌+◌, ◌*◌, List, [], ◌∷◌, length, Option, Some, None}
use Rattle.vh_wav.specs.Text.{wav_text}
use Rattle.vh_session.specs.Content.{Content}
use Rattle.vh_preset.specs.Contents.{Contents}
use Rattle.vh_journal.specs.declared.entry.Entry.{Entry}
use Rattle.vh_journal_text.specs.Items.{items_of}
use Rattle.vh_journal_text.specs.Text.{journal_text}
use Rattle.vh_meaning.specs.Scene.{Scene}
use Rattle.vh_meaning.specs.Rendering.{rendering, last_values, answers}
use Rattle.vh_answers.specs.declared.status.Place.TheVariants.{Output as OutputPlace, Journal as JournalPlace}
use Rattle.vh_answers.specs.declared.status.Status.TheVariants as status
use Rattle.vh_answers.specs.Report.{report_text}
use Rattle.vh_answers.specs.Steps.{Step, Judges, Output, Steps, Then, Last}
use Rattle.vh_host.specs.Known.{Known, scene_under, modes_under}
use Rattle.vh_host.specs.Input.{Heard}
use Rattle.vh_host.specs.Commands.{session_steps, input_step, piece_count}
use Rattle.vh_live_host.specs.Words.{Live, live_in}
use Rattle.vh_live_host.specs.Played.{Played, IsPlayed, counts_in}

-- the words are those of a live rendering
abbrev pub words_step : List (List ℕ) → Step Live
words_step words = Judges (Unit {0}) (λ live. live_in words ≡ Some live) (λ fault. status.Usage) (λ fault. live_in words ≡ None)

-- the session is played while its editors work, which nothing refuses
abbrev pub played_step : Option ℕ → Content → Step Played
played_step block content = Judges ⊥ (IsPlayed block content) (λ fault. status.Usage) (λ fault. ⊥)

-- what it writes: the samples over the journal, and the journal
abbrev pub samples : Scene → Live → Content → Heard → List Entry → Output
samples scene live content heard journal = record {
  place = OutputPlace;
  name = live.output;
  apart = live.input ∷ live.journal ∷ [];
  text = wav_text content.channels heard.rate content.bits (rendering scene heard.frames journal);
}

abbrev pub written : Live → Content → List Entry → Output
written live content journal = record {
  place = JournalPlace;
  name = live.journal;
  apart = live.input ∷ live.output ∷ [];
  text = journal_text content.nodes (items_of journal);
}

-- and what it says, where controllers have these modes
abbrev pub reported : Scene → List ℕ → Live → Content → Heard → Played → List ℕ
reported scene modes live content heard played =
    report_text content (last_values scene heard.frames played.journal) modes (piece_count live.block content played.journal) (answers scene heard.frames played.journal) (counts_in content.nodes played)

-- each node's processor is called once for each piece and once at the end
abbrev pub calls_of : Live → Content → List Entry → ℕ
calls_of live content journal = length content.nodes * (piece_count live.block content journal + 1)

abbrev pub done_steps : Scene → List ℕ → Live → Content → Heard → Played → Steps
done_steps scene modes live content heard played =
    Last (samples scene live content heard played.journal ∷ written live content played.journal ∷ []) (reported scene modes live content heard played) (calls_of live content played.journal)

abbrev pub heard_steps : Scene → List ℕ → Live → Content → Heard → Steps
heard_steps scene modes live content heard = Then Played (played_step live.block content) (done_steps scene modes live content heard)

-- what follows from the input
abbrev pub input_steps : Live → Content → (Heard → Steps) → Steps
input_steps live content next = Then Heard (input_step live.input content.channels) next

abbrev pub begun_steps : Known → Live → Content → List (Option Contents) → Steps
begun_steps known live content presets = input_steps live content (heard_steps (scene_under known content presets) (modes_under known content presets) live content)

abbrev pub live_steps : Known → Live → Steps
live_steps known live = session_steps known live.session (begun_steps known live)

-- the words first
abbrev pub steps_in : Known → List (List ℕ) → Steps
steps_in known words = Then Live (words_step words) (live_steps known)

-- what is read and may be refused: all that comes before it is played
abbrev pub nothing_more : Heard → Steps
nothing_more heard = Last [] [] 0

abbrev pub read_steps : Known → Live → Steps
read_steps known live = session_steps known live.session (λ content presets. input_steps live content nothing_more)

abbrev pub asked_in : Known → List (List ℕ) → Steps
asked_in known words = Then Live (words_step words) (read_steps known)

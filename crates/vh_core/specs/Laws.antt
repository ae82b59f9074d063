-- What runs of a machine come to.
use Rattle.std.specs.Prelude.{◌≡◌, ℕ, List}
use Rattle.std.specs.List.{enumerate_from}
use Rattle.vh_num.specs.Frames.{Frame}
use Rattle.vh_plugin.specs.Class.{Class}
use Rattle.vh_journal.specs.declared.entry.Entry.{Entry}
use Rattle.vh_session.specs.declared.session.Session.{Session}
use Rattle.vh_session.specs.Names.{content_of}
use Rattle.vh_meaning.specs.Rendering.{rendering, last_values}
use Rattle.vh_legal.specs.Legal.{IsLegalFor}
use Rattle.vh_core.specs.declared.event.Event.{Event}
use Rattle.vh_core.specs.State.{Setting, scene_in, State, seen, begun}
use Rattle.vh_core.specs.Accepting.{edits_by}
use Rattle.vh_core.specs.Runs.{MayFollow, MayRun}
use Rattle.vh_core.specs.Sound.{entered_by, KeepsEdits, KeepsFrames, KeepsValues, IsSound, IsSettled}
use Rattle.vh_core.specs.Played.{played}

-- Every event keeps each of the three, from any state that has it.
pub record KeptByEvents : Type 0 where
  pub edits : (setting : Setting) (event : Event) (before after : State) → MayFollow setting event before after → KeepsEdits setting before → KeepsEdits setting after
  pub frames : (setting : Setting) (event : Event) (before after : State) → MayFollow setting event before after → KeepsFrames setting before → KeepsFrames setting after
  pub values : (setting : Setting) (event : Event) (before after : State) → MayFollow setting event before after → KeepsValues setting before → KeepsValues setting after

-- So all three hold after every list of events, for every session and input.
abbrev pub SoundAfterEvents : Type 0
SoundAfterEvents = (setting : Setting) (events : List Event) (after : State) → MayRun setting events (begun setting) after → IsSound setting after

-- Where nothing is on its way, controllers have what processors show, and the journal has what each editor did.
pub record AreEqual (setting : Setting) (state : State) : Type 0 where
  pub values : state.controllers ≡ seen setting state
  pub edits : (editor : ℕ) → entered_by editor state.journal ≡ enumerate_from 0 (edits_by setting.session.nodes editor state.puts)

abbrev pub EqualWhereSettled : Type 0
EqualWhereSettled = (setting : Setting) (state : State) → IsSound setting state → IsSettled state → AreEqual setting state

-- a machine came to a journal: to its rendering, and controllers have the values at the end
pub record HasPlayed (setting : Setting) (entries : List Entry) (state : State) : Type 0 where
  pub journal : state.journal ≡ entries
  pub frames : state.frames ≡ rendering (scene_in setting) setting.input entries
  pub controllers : state.controllers ≡ last_values (scene_in setting) setting.input entries

-- over a session, with these classes and first values, and an input
abbrev pub setting_of : Session → (ℕ → Class) → List ℕ → List ℕ → List Frame → Setting
setting_of session class_of codes firsts input = record { session = content_of session; class_of = class_of; codes = codes; firsts = firsts; input = input }

-- To every legal journal there are events by which a machine comes to it, over every input, whichever changes it tells
-- at once.
abbrev pub Events : Type 0
Events = (session : Session) (class_of : ℕ → Class) (codes firsts : List ℕ) (input : List Frame) (entries : List Entry) (after : State)
    → IsLegalFor session entries
    → let setting = setting_of session class_of codes firsts input in
    MayRun setting (played setting entries) (begun setting) after
    → HasPlayed setting entries after

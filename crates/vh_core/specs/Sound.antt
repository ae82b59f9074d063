-- What holds of a machine at every moment.
use Rattle.std.specs.Prelude.{◌≡◌, ◌≤◌, ◌<◌, ℕ, ◌==◌, true, false, List, [], ◌++◌, length, map, filter, take, slice_index, slice_index_or, All, ◌⊎◌}
use Rattle.std.specs.List.{enumerate_from}
use Rattle.vh_params.specs.declared.command.Command.{Command}
use Rattle.vh_journal.specs.declared.entry.Entry.{Entry}
use Rattle.vh_meaning.specs.Rendering.{rendering}
use Rattle.vh_core.specs.declared.sent.Sent.{Sent}
use Rattle.vh_core.specs.State.{Setting, scene_in, State, seen, at_first}
use Rattle.vh_core.specs.Accepting.{edits_by}
use Rattle.vh_core.specs.Steps.{given}

-- an editor's entries, and what it sent, with their numbers
abbrev pub entered_by : ℕ → List Entry → List (ℕ × Command)
entered_by editor entries = map (λ entry. (entry.seq, entry.command)) (filter (λ entry. entry.editor == editor) entries)

abbrev pub sent_of : ℕ → List Sent → List (ℕ × Command)
sent_of editor inbox = map (λ sent. (sent.seq, sent.command)) (filter (λ sent. sent.editor == editor) inbox)

-- Of each editor, what stands in the journal and then what waits are the edits of the words that it put, each once, in
-- order, numbered from 0.
abbrev pub KeepsEdits : Setting → State → Type 0
KeepsEdits setting state =
    (editor : ℕ) → entered_by editor state.journal ++ sent_of editor state.inbox ≡ enumerate_from 0 (edits_by setting.session.nodes editor state.puts)

-- What was rendered is the front of the rendering under the journal.
pub record KeepsFrames (setting : Setting) (state : State) : Type 0 where
  pub within : state.pos ≤ (scene_in setting).length
  pub frames : state.frames ≡ take state.pos (rendering (scene_in setting) setting.input state.journal)

-- With what is on its way back, each controller has what its processor shows, or the change waits to be told.
pub record KeepsValues (setting : Setting) (state : State) : Type 0 where
  pub each : length state.controllers ≡ length (at_first setting)
  pub back : (place : ℕ) → place < length (at_first setting)
      → (slice_index (given state.returns state.controllers) place ≡ slice_index (seen setting state) place) ⊎ (slice_index_or state.flags place false ≡ true)

pub record IsSound (setting : Setting) (state : State) : Type 0 where
  pub edits : KeepsEdits setting state
  pub frames : KeepsFrames setting state
  pub values : KeepsValues setting state

-- nothing is on its way
pub record IsSettled (state : State) : Type 0 where
  pub inbox : state.inbox ≡ []
  pub returns : state.returns ≡ []
  pub flags : All (λ flag. flag ≡ false) state.flags

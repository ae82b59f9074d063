-- What each event does.
use Rattle.std.specs.Prelude.{ℕ, ◌+◌, ◌-◌, min, Bool, true, false, not, ◌&&◌, ◌||◌, ◌==◌, List, [], ◌∷◌, ◌++◌, length, map, filter, take, drop, slice_index, slice_index_or, slice_set, if◌then◌else◌}
use Rattle.std.specs.List.{range_with_len, flat_map}
use Rattle.vh_params.specs.declared.command.Word.{Word}
use Rattle.vh_journal.specs.declared.entry.Entry.{Entry}
use Rattle.vh_meaning.specs.Rendering.{out_at, answers}
use Rattle.vh_core.specs.declared.event.Event.{Event}
use Rattle.vh_core.specs.declared.event.Event.TheVariants.{Put, Audio, Back, Flush}
use Rattle.vh_core.specs.declared.sent.Sent.{Sent}
use Rattle.vh_core.specs.State.{Setting, scene_in, Return, Echo, Reply, State, seen}
use Rattle.vh_core.specs.Accepting.{sent_by}

abbrev pub put : Setting → ℕ → Word → State → State
put setting editor word state = record state {
  puts = state.puts ++ (editor, word) ∷ [];
  inbox = state.inbox ++ sent_by setting.session.nodes state.puts editor word;
}

-- what was sent stands in the journal at a sample
abbrev pub entry_at : ℕ → Sent → Entry
entry_at sample sent = record { sample = sample; editor = sent.editor; seq = sent.seq; command = sent.command }

-- the first of the inbox, so many, are taken at the next sample
abbrev pub take_in : ℕ → State → State
take_in count state = record state {
  inbox = drop count state.inbox;
  journal = state.journal ++ map (entry_at state.pos) (take count state.inbox);
}

-- the replies to the messages of a sample
abbrev pub replies_at : Setting → List Entry → ℕ → List Return
replies_at setting journal sample = map Reply (filter (λ answer. answer.sample == sample) (answers (scene_in setting) setting.input journal))

-- so many frames more are rendered, at most to the length
abbrev pub render : Setting → ℕ → State → State
render setting count state =
    let more = min count ((scene_in setting).length - state.pos) in
    record state {
      pos = state.pos + more;
      frames = state.frames ++ map (out_at (scene_in setting) setting.input state.journal) (range_with_len state.pos more);
      returns = state.returns ++ flat_map (replies_at setting state.journal) (range_with_len state.pos more);
    }

-- the processors take the values at the length
abbrev pub settle : Setting → State → State
settle setting state = record state {
  flushed = true;
  returns = state.returns ++ replies_at setting state.journal state.pos;
}

abbrev pub has_changed : List ℕ → List ℕ → ℕ → Bool
has_changed old new place = not (slice_index new place == slice_index old place)

-- a change of a parameter is to be told: it is seen to have changed, or a change before waits
abbrev pub is_due : List ℕ → List ℕ → List Bool → ℕ → Bool
is_due old new flags place = has_changed old new place || slice_index_or flags place false

-- Of each parameter whose change is to be told, where all were seen as `old` before, the present value goes to the
-- controllers, or the change waits: for each place `tells` says which.
abbrev pub tell : Setting → (ℕ → Bool) → List ℕ → State → State
tell setting tells old state =
    let new = seen setting state in
    let places = range_with_len 0 (length new) in
    record state {
      returns = state.returns ++ map (λ place. Echo place (slice_index new place)) (filter (λ place. is_due old new state.flags place && tells place) places);
      flags = map (λ place. is_due old new state.flags place && not (tells place)) places;
    }

-- what comes back reaches the controllers
abbrev pub given : List Return → List ℕ → List ℕ
given [] controllers = controllers
given (Echo place value ∷ returns) controllers = given returns (slice_set controllers place value)
given (Reply answer ∷ returns) controllers = given returns controllers

abbrev pub give_back : ℕ → State → State
give_back count state = record state {
  returns = drop count state.returns;
  controllers = given (take count state.returns) state.controllers;
}

abbrev pub always : ℕ → Bool
always place = true

-- the rendering is at its end, and it was not flushed
abbrev pub is_at_end : Setting → State → Bool
is_at_end setting state = not state.flushed && (state.pos == (scene_in setting).length)

-- what an event makes of a state, where `tells` says which changes are told
abbrev pub next : Setting → (ℕ → Bool) → Event → State → State
next setting tells (Put editor word) state = put setting editor word state
next setting tells (Audio count frames) state =
    if state.flushed then state else tell setting tells (seen setting state) (render setting frames (take_in count state))
next setting tells (Back count) state = give_back count state
next setting tells Flush state =
    if is_at_end setting state then tell setting always (seen setting state) (settle setting (take_in (length state.inbox) state)) else state

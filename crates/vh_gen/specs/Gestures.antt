-- The journal that is drawn: 170 times something at one node, 384 frames apart, by the first editor.
use Rattle.std.specs.Prelude.{ℕ, zero, suc, ◌+◌, ◌*◌, ◌==◌, Bool, List, [], ◌∷◌, ◌++◌, length, slice_index, if◌then◌else◌}
use Rattle.std.proofs.Common.{refl}
use Rattle.std.proofs.lemmas.Bool.{leb-true}
use Rattle.vh_journal.specs.declared.entry.Entry.{Entry}
use Rattle.vh_params.specs.declared.command.Command.{Command}
use Rattle.vh_params.specs.declared.command.Command.TheVariants.{Begin, Perform, End, Tell}
use Rattle.vh_params.specs.declared.label.Words.{Words}
use Rattle.vh_gen.specs.Draws.{behind, draw, drawn_value}

-- the seventh class
abbrev pub is_meter : ℕ → Bool
is_meter kind = kind == 6

-- the node that is drawn first, where the nodes have these kinds
abbrev pub touched_node : List ℕ → ℕ → ℕ
touched_node kinds state = draw state 0 (length kinds)

abbrev pub touches_meter : List ℕ → ℕ → Bool
touches_meter kinds state = is_meter (slice_index kinds (touched_node kinds state))

-- the message of one word, 0
abbrev pub one_zero : Words
one_zero = record { list = 0 ∷ 0 ∷ 0 ∷ 0 ∷ []; len = 1; within = leb-true 1 4 refl; clear = refl }

abbrev pub entry : ℕ → ℕ → Command → Entry
entry gesture seq command = record { sample = 384 * gesture; editor = 0; seq = seq; command = command }

-- a value for the node's first parameter
abbrev pub edit_of : ℕ → ℕ → ℕ → ℕ → List Entry
edit_of gesture seq node value = entry gesture seq (Begin node 0) ∷ entry gesture (seq + 1) (Perform node 0 value) ∷ entry gesture (seq + 2) (End node 0) ∷ []

-- a meter is told 0, each other node's first parameter gets a value, which is drawn
abbrev pub gesture_from : List ℕ → ℕ → ℕ → ℕ → List Entry
gesture_from kinds state gesture seq =
    if touches_meter kinds state
    then entry gesture seq (Tell (touched_node kinds state) one_zero) ∷ []
    else edit_of gesture seq (touched_node kinds state) (drawn_value state 1)

-- the state behind its draws
abbrev pub behind_gesture : List ℕ → ℕ → ℕ
behind_gesture kinds state = if touches_meter kinds state then behind 1 state else behind 2 state

-- the state before a gesture's draws, where this is the state before all
unfoldable pub gesture_state : List ℕ → ℕ → ℕ → ℕ
gesture_state kinds state zero = state
gesture_state kinds state (suc gesture) = behind_gesture kinds (gesture_state kinds state gesture)

-- the entries of the first gestures, so many
unfoldable pub entries_to : List ℕ → ℕ → ℕ → List Entry
entries_to kinds state zero = []
entries_to kinds state (suc gesture) =
    entries_to kinds state gesture ++ gesture_from kinds (gesture_state kinds state gesture) gesture (length (entries_to kinds state gesture))

abbrev pub gesture_total : ℕ
gesture_total = 170

abbrev pub entries_of : List ℕ → ℕ → List Entry
entries_of kinds state = entries_to kinds state gesture_total

abbrev pub gestures_end : List ℕ → ℕ → ℕ
gestures_end kinds state = gesture_state kinds state gesture_total

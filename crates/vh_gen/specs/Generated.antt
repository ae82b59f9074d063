-- What comes of a number: a session, the entries of its journal, and what is heard.
use Rattle.std.specs.Prelude.{ℕ, ◌+◌, ◌*◌, List, [], ◌∷◌, map}
use Rattle.std.specs.List.{range_with_len}
use Rattle.vh_journal.specs.declared.entry.Entry.{Entry}
use Rattle.vh_num.specs.Frames.{Frame}
use Rattle.vh_params.specs.declared.class.ClassInfo.{ClassInfo}
use Rattle.vh_params.specs.Nodes.{Node}
use Rattle.vh_session.specs.Content.{Content}
use Rattle.vh_session.specs.Entry.{LaneText}
use Rattle.vh_session.specs.declared.wire.Wire.{Wire}
use Rattle.vh_gen.specs.Draws.{drawn_sample}
use Rattle.vh_gen.specs.Nodes.{kinds_of, nodes_of, wires_of, nodes_end}
use Rattle.vh_gen.specs.Lanes.{lanes_of, lanes_end}
use Rattle.vh_gen.specs.Gestures.{entries_of, gestures_end}

-- the frames of all that is drawn
unfoldable pub frame_total : ℕ
frame_total = 65536

-- the sizes of blocks, in turn
abbrev pub sizes : List ℕ
sizes = 64 ∷ 1000 ∷ 1 ∷ 8192 ∷ []

-- a session of so many frames, and of these nodes, wires and lanes
abbrev pub content_with : ℕ → List Node → List Wire → List LaneText → Content
content_with frames nodes wires lanes = record {
  length = frames;
  channels = 2;
  bits = 16;
  pattern = sizes;
  nodes = nodes;
  presets = [];
  firsts = [];
  wires = wires;
  lanes = lanes;
  scripts = [];
}

-- the session of a number, under these classes
abbrev pub session_of : List ClassInfo → ℕ → Content
session_of known number = content_with frame_total (nodes_of known (kinds_of number)) (wires_of number) (lanes_of (nodes_of known (kinds_of number)) (nodes_end number))

-- the state behind its lanes, from which its journal is drawn
abbrev pub before_journal : List ClassInfo → ℕ → ℕ
before_journal known number = lanes_end (nodes_of known (kinds_of number)) (nodes_end number)

abbrev pub journal_of : List ClassInfo → ℕ → List Entry
journal_of known number = entries_of (kinds_of number) (before_journal known number)

-- the state behind its journal, from which the input is drawn
abbrev pub before_input : List ClassInfo → ℕ → ℕ
before_input known number = gestures_end (kinds_of number) (before_journal known number)

-- two draws a frame, left and then right
abbrev pub frame_from : ℕ → ℕ → Frame
frame_from state s = drawn_sample state (2 * s) ∷ drawn_sample state (2 * s + 1) ∷ []

abbrev pub input_from : ℕ → List Frame
input_from state = map (frame_from state) (range_with_len 0 frame_total)

abbrev pub input_of : List ClassInfo → ℕ → List Frame
input_of known number = input_from (before_input known number)

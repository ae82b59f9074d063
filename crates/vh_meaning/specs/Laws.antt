-- Laws of the definitions, in the subject's own words.
use Rattle.std.specs.Prelude.{◌≡◌, ◌≢◌, ◌<◌, ◌≤◌, ℕ, ◌+◌, true, false, List, [], ◌∷◌, ◌++◌, length, map, slice_index_or, All, Some, None}
use Rattle.std.specs.List.Sorted.{IsPermutation}
use Rattle.vh_graph.specs.Order.{IsOrder}
use Rattle.vh_num.specs.Values.{quant_of}
use Rattle.vh_params.specs.declared.command.Command.{Command}
use Rattle.vh_params.specs.declared.command.Command.TheVariants.{Begin, Perform, End, Tell}
use Rattle.vh_params.specs.declared.label.Words.{Words}
use Rattle.vh_num.specs.Frames.{Frame}
use Rattle.vh_plugin.specs.Class.{Param, State}
use Rattle.vh_session.specs.Content.{node_wires}
use Rattle.vh_session.specs.declared.wire.End.TheVariants.{Out}
use Rattle.vh_session.specs.declared.wire.Wire.{Wire}
use Rattle.vh_journal.specs.declared.entry.Entry.{Entry}
use Rattle.vh_meaning.specs.Scene.{Scene, node_count, params_at, lane_of}
use Rattle.vh_meaning.specs.Edits.{Edit, Began, Performed, Ended, is_open, edits_of, up_to}
use Rattle.vh_meaning.specs.Values.{value_of, values_at}
use Rattle.vh_meaning.specs.Mix.{is_at}
use Rattle.vh_meaning.specs.Frames.{frame_of}
use Rattle.vh_meaning.specs.World.{silence, input_at, world, after, frame_at}
use Rattle.vh_meaning.specs.Rendering.{out_at, answers, message_sample, stops}
use Rattle.vh_meaning.specs.Stands.{Standing, StandsFor, touches_at}
use Rattle.vh_meaning.specs.Steps.{touches_through, values_now, applied, moved_on, frames_now}
use Rattle.vh_meaning.specs.Trace.{IsConsistent, IsTrace}

-- the nodes can be put in an order in which each stands behind its sources
abbrev pub HasOrder : Scene → Type 0
HasOrder scene = (order : List ℕ) × IsOrder (node_count scene) (node_wires scene.wires) order

-- no message falls behind sample `at`, and before `to`
abbrev pub IsNoMessageWithin : ℕ → ℕ → Entry → Type 0
IsNoMessageWithin at to entry = (s : ℕ) → message_sample entry.sample entry.command ≡ Some s → at < s → s < to → ⊥

-- Frames that fit together are those of the recursion on the graph: each node gives what its class gives for what
-- reaches it, and there is one way only in which that can be.
abbrev pub FramesThatFit : Type 0
FramesThatFit = (scene : Scene) (states : ℕ → State) (values : ℕ → List ℕ) (input : Frame) (frames : ℕ → Frame) → HasOrder scene
    → IsConsistent scene states values input frames
    → (node : ℕ) → node < node_count scene → frames node ≡ frame_of scene states values input node

-- and those of the recursion fit together
abbrev pub FramesFit : Type 0
FramesFit = (scene : Scene) (states : ℕ → State) (values : ℕ → List ℕ) (input : Frame) → HasOrder scene
    → IsConsistent scene states values input (frame_of scene states values input)

-- The interchange: states and frames that form a trace from the states after a sample's messages are those of the
-- world and of its frames, in whatever order the nodes ran and over however many samples.
abbrev pub Interchange : Type 0
Interchange = (scene : Scene) (input : List Frame) (h : List Entry) (at n : ℕ) (states : ℕ → ℕ → State) (frames : ℕ → ℕ → Frame) → HasOrder scene
    → ((node : ℕ) → node < node_count scene → states 0 node ≡ after scene input h at node)
    → All (IsNoMessageWithin at (at + n)) h
    → IsTrace scene n (λ o. values_at scene h (at + o)) (λ o. input_at scene input (at + o)) states frames
    → ((o node : ℕ) → o < n → node < node_count scene → frames o node ≡ frame_at scene input h (at + o) node)
    × ((node : ℕ) → 0 < n → node < node_count scene → states n node ≡ world scene input h (at + n) node)

-- a command that is a message is one to a node of the scene
abbrev pub IsToNode : Scene → Command → Type 0
IsToNode scene command = (node : ℕ) (words : Words) → command ≡ Tell node words → node < node_count scene

-- entries from a sample on: their samples never fall, and messages stand at that sample alone, to nodes of the scene
pub record AreNext (scene : Scene) (s : ℕ) (entries : List Entry) : Type 0 where
  pub rising : (i j : ℕ) (d : Entry) → i < j → j < length entries → (slice_index_or entries i d).sample ≤ (slice_index_or entries j d).sample
  pub from : All (λ entry. s ≤ entry.sample) entries
  pub messages : All (λ entry. (t : ℕ) → message_sample entry.sample entry.command ≡ Some t → t ≡ s) entries
  pub nodes : All (λ entry. IsToNode scene entry.command) entries

-- it stands for an input and entries at a sample, whose messages were given
pub record StandsAfter (scene : Scene) (standing : Standing) (s : ℕ) (input : List Frame) (h : List Entry) : Type 0 where
  pub states : (node : ℕ) → node < node_count scene → standing.states node ≡ after scene input h s node
  pub touches : (node : ℕ) → node < node_count scene → standing.touches node ≡ touches_at scene h node
  pub answers : standing.answers ≡ answers scene input h

-- What is kept before a sample, with further entries applied one by one, stands for the longer list.
abbrev pub Applied : Type 0
Applied = (scene : Scene) (standing : Standing) (s : ℕ) (input : List Frame) (h entries : List Entry)
    → StandsFor scene standing s input h
    → AreNext scene s entries
    → StandsAfter scene (applied scene s entries standing) s input (h ++ entries)

-- The values at a sample, from what is kept of the entries before and from those behind them up to the sample.
abbrev pub ValuesFromKept : Type 0
ValuesFromKept = (scene : Scene) (h entries : List Entry) (node s : ℕ)
    → All (λ entry. entry.sample ≤ s) h
    → values_at scene (h ++ entries) s node
    ≡ values_now scene node (params_at scene node) (touches_through scene (up_to s entries) node (params_at scene node) (touches_at scene h node)) s

-- What is kept before a sample, with the sample's entries applied one by one and the nodes moved on, is what is kept
-- before the next; and the frames are the world's.
abbrev pub OneSample : Type 0
OneSample = (scene : Scene) (standing : Standing) (s : ℕ) (input : List Frame) (h entries : List Entry) → HasOrder scene
    → StandsFor scene standing s input h
    → All (λ entry. entry.sample ≡ s) entries → All (λ entry. IsToNode scene entry.command) entries
    → StandsFor scene (moved_on scene s (input_at scene input s) (applied scene s entries standing)) (s + 1) input (h ++ entries)
    × ((node : ℕ) → node < node_count scene → frames_now scene s (input_at scene input s) (applied scene s entries standing) node ≡ frame_at scene input (h ++ entries) s node)

-- A frame depends on no later input and on no later entry.
abbrev pub NoLater : Type 0
NoLater = (scene : Scene) (input other : List Frame) (h k : List Entry) (s node : ℕ)
    → ((t : ℕ) → t ≤ s → input_at scene input t ≡ input_at scene other t)
    → up_to s h ≡ up_to s k
    → frame_at scene input h s node ≡ frame_at scene other k s node

-- While no gesture is open, a parameter with a lane is the lane: edits that are over leave no trace.
abbrev pub LaneWhileNoneOpen : Type 0
LaneWhileNoneOpen = (scene : Scene) (h : List Entry) (node : ℕ) (param : Param) (first s : ℕ) (lane : ℕ → ℕ)
    → lane_of scene node param ≡ Some lane
    → is_open (edits_of (up_to s h) node param.id) ≡ false
    → value_of scene h node param first s ≡ lane s

-- Without a lane a parameter has the last value that it was given, whatever gestures begin and end around it.
abbrev pub LastWithoutLane : Type 0
LastWithoutLane = (scene : Scene) (h : List Entry) (node : ℕ) (param : Param) (first s value : ℕ) (later earlier : List Edit)
    → lane_of scene node param ≡ None
    → edits_of (up_to s h) node param.id ≡ later ++ Performed value ∷ earlier
    → All (λ edit. (v : ℕ) → edit ≢ Performed v) later
    → value_of scene h node param first s ≡ quant_of value param.steps

-- With a lane and a gesture open, it is what was performed last since the first of the gestures that overlap began, or
-- the lane's value where that one began.
pub record IsSinceFirst (begun : ℕ) (later earlier : List Edit) (edits : List Edit) : Type 0 where
  pub split : edits ≡ later ++ Began begun ∷ earlier
  -- none was open before
  pub first : is_open earlier ≡ false
  -- and one was from then on
  pub on : (behind before : List Edit) → later ≡ behind ++ before → is_open (before ++ Began begun ∷ earlier) ≡ true

-- the value of the last perform among edits, of which the latest stands first, or this one
abbrev pub last_performed : ℕ → ℕ → List Edit → ℕ
last_performed steps value [] = value
last_performed steps value (Began sample ∷ earlier) = last_performed steps value earlier
last_performed steps value (Ended ∷ earlier) = last_performed steps value earlier
last_performed steps value (Performed other ∷ earlier) = quant_of other steps

abbrev pub LaneWhileOpen : Type 0
LaneWhileOpen = (scene : Scene) (h : List Entry) (node : ℕ) (param : Param) (first s begun : ℕ) (lane : ℕ → ℕ) (later earlier : List Edit)
    → lane_of scene node param ≡ Some lane
    → IsSinceFirst begun later earlier (edits_of (up_to s h) node param.id)
    → value_of scene h node param first s ≡ last_performed param.steps (lane begun) later

-- a command that is no edit of this parameter
pub record IsElsewhere (node id : ℕ) (command : Command) : Type 0 where
  pub begins : command ≢ Begin node id
  pub performs : (value : ℕ) → command ≢ Perform node id value
  pub ends : command ≢ End node id

-- An entry that is no edit of a parameter changes its value nowhere.
abbrev pub OnlyItsParameter : Type 0
OnlyItsParameter = (scene : Scene) (before later : List Entry) (entry : Entry) (node : ℕ) (param : Param) (first s : ℕ)
    → IsElsewhere node param.id entry.command
    → value_of scene (before ++ entry ∷ later) node param first s ≡ value_of scene (before ++ later) node param first s

-- Each message has its answer, in the entries' order and at its sample, and nothing else has one.
abbrev pub EachIsAnswered : Type 0
EachIsAnswered = (scene : Scene) (input : List Frame) (h : List Entry) → map (λ answer. answer.sample) (answers scene input h) ≡ stops h

-- the scene with its wires in another order
abbrev pub with_wires : Scene → List Wire → Scene
with_wires scene wires = record {
  length = scene.length;
  channels = scene.channels;
  class_of = scene.class_of;
  codes = scene.codes;
  firsts = scene.firsts;
  lanes = scene.lanes;
  wires = wires;
}

-- The order of the wires doesn't matter.
abbrev pub AnyOrderOfWires : Type 0
AnyOrderOfWires = (scene : Scene) (wires : List Wire) (input : List Frame) (h : List Entry) (s : ℕ)
    → IsPermutation scene.wires wires
    → out_at (with_wires scene wires) input h s ≡ out_at scene input h s

-- Without a wire to the output a rendering is silence.
abbrev pub SilenceWithoutOut : Type 0
SilenceWithoutOut = (scene : Scene) (input : List Frame) (h : List Entry) (s : ℕ)
    → All (λ wire. is_at wire.to Out ≡ false) scene.wires
    → out_at scene input h s ≡ silence scene.channels

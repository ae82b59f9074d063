-- What an engine keeps to.
use Rattle.std.specs.Prelude.{◌≡◌, ◌<◌, ◌≤◌, ◌+◌, ◌-◌, ◌*◌, ◌^◌, ℕ, Bool, true, false, List, [], length, map, slice_index_or, All, ℤ, None, sum_by, vec_len, vec_capacity, if◌then◌else◌}
use Rattle.vh_component.specs.declared.setup.Phase.{Phase}
use Rattle.vh_component.specs.declared.setup.Phase.TheVariants.{Processing as AtProcessing}
use Rattle.vh_component.specs.declared.setup.Setup.{Setup}
use Rattle.vh_plugin.specs.Class.{Class, State}
use Rattle.vh_session.specs.declared.wire.End.TheVariants.{In, Out, Node as AtNode}
use Rattle.vh_session.specs.Names.{content_of}
use Rattle.vh_session.specs.Content.{sources_into}
use Rattle.vh_meaning.specs.Scene.{Scene}
use Rattle.vh_meaning.specs.Laws.{HasOrder}
use Rattle.vh_meaning.specs.Block.{IsFromScene}
use Rattle.vh_engine.specs.declared.control.Control.{Control}
use Rattle.vh_engine.specs.declared.parts.Parts.{Parts}
use Rattle.vh_engine.specs.declared.work.Work.{Work}
use Rattle.vh_engine.specs.declared.seat.Seat.{Seat}
use Rattle.vh_engine.specs.Buses.{rows_of, IsSource, HaveRoom}
use Rattle.vh_engine.specs.Controls.{touch_of, IsControl}
use Rattle.vh_engine.specs.Kept.{Kept}
use Rattle.vh_engine.specs.Parts.{scene_by}
use Rattle.vh_engine.specs.Nodes.{AreOf, sent_of}
use Rattle.vh_engine.specs.Runs.{AreAfter, IsSeat, IsSpacious}
use Rattle.vh_engine.specs.Staged.{of_all, holders_of, boards_of, board_at, answer_of, AreBoards}
use Rattle.vh_engine.specs.Told.{IsStage}

abbrev pub kept_in : {P : Type 0} → (P → ℕ) → (P → State) → (P → ℕ) → Parts P → Work → Kept
kept_in code state calls parts work = record {
  session = content_of parts.session;
  codes = of_all code parts.processors.items;
  states = of_all state parts.processors.items;
  calls = of_all calls parts.processors.items;
  holders = holders_of parts.processors.items;
  firsts = parts.first.items;
  touches = map (λ board. map touch_of board) (boards_of work.boards.items);
  values = work.values.items;
  answers = map answer_of work.replies.items;
  at = work.pos;
  max = work.max;
  room = vec_capacity work.replies - vec_len work.replies;
  flushed = work.flushed;
}

-- a read-only parameter stays where it is
pub record IsStill (control : Control) : Type 0 where
  pub lane : control.lane ≡ None
  pub sent : control.sent ≡ control.held

-- a node between blocks: its processor processes, for the session's channels and so many frames, at the values that
-- were sent; and counts of gestures have room for so many entries
pub record IsNode (class : Class) (phase : Phase) (setup : Setup) (values : List ℕ) (channels max params lanes room : ℕ) (seat : Seat) (controls : List Control) : Type 0 where
  pub phase_is : phase ≡ AtProcessing
  pub channels_are : setup.channels ≡ channels
  pub most : max ≤ setup.max
  pub of : AreOf class.params controls
  pub sent : values ≡ sent_of controls
  pub few : length controls ≤ params
  pub each : All (IsControl lanes room) controls
  pub still : All (λ control. control.shown ≡ true → IsStill control) controls
  pub seat_is : IsSeat class seat

-- the nodes between blocks, with room for so many entries to come
abbrev pub AreNodes : {P : Type 0} → (ℕ → Class) → (P → ℕ) → (P → List ℕ) → (P → Phase) → (P → Setup) → Parts P → Work → ℕ → Type 0
AreNodes class_of code values phase setup parts work room = (node c : ℕ) (p : Phase) (s : Setup) (d : Seat) → node < length parts.processors.items
    → IsNode (class_of (slice_index_or (of_all code parts.processors.items) node c)) (slice_index_or (of_all phase parts.processors.items) node p) (slice_index_or (of_all setup parts.processors.items) node s)
    (slice_index_or (of_all values parts.processors.items) node []) parts.session.channels work.max 64 (length parts.session.lanes.items) room
    (slice_index_or work.seats.items node d) (board_at (boards_of work.boards.items) node)

-- the graph of a scene: its nodes can be put in order, and wires begin at them or at the input
pub record IsGraph (scene : Scene) : Type 0 where
  pub order : HasOrder scene
  pub from : All (IsFromScene scene) scene.wires

-- an engine between blocks, or within one, with room for so many entries to come
pub record IsReadyFor {P : Type 0} (class_of : ℕ → Class) (code : P → ℕ) (values : P → List ℕ) (phase : P → Phase) (setup : P → Setup) (parts : Parts P) (work : Work) (room : ℕ) : Type 0 where
  pub stage : IsStage class_of (of_all code parts.processors.items) (scene_by class_of code parts) parts.session.lanes.items (boards_of work.boards.items)
  pub graph : IsGraph (scene_by class_of code parts)
  pub few : length parts.processors.items ≤ 64
  pub channels : 1 ≤ parts.session.channels
  pub most : (1 ≤ work.max) × (work.max ≤ 8192)
  pub within : work.pos ≤ parts.session.length
  pub seats : length work.seats.items ≡ length parts.processors.items
  pub seat : (node : ℕ) (d : Seat) → node < length work.seats.items
      → ((slice_index_or work.seats.items node d).main.items ≡ sources_into parts.session.wires.items (AtNode node) false)
      × ((slice_index_or work.seats.items node d).aux.items ≡ sources_into parts.session.wires.items (AtNode node) true)
  pub order : AreAfter (length work.seats.items) work.seats.items [] work.order.items
  pub rows : (length work.rows.items ≡ length parts.processors.items) × HaveRoom (parts.session.channels * work.max) (rows_of work.rows.items)
  pub ends : work.ends.items ≡ sources_into parts.session.wires.items Out false
  pub few_ends : length work.ends.items ≤ 256
  pub sources : All (IsSource (length parts.processors.items)) work.ends.items
  pub space : IsSpacious work.space (parts.session.channels * work.max) 64 work.max
  pub given : 64 ≤ length work.given.items
  pub shown : length work.values.items ≡ sum_by (λ board. length board) (boards_of work.boards.items)
  pub within_one : All (λ value. value ≤ 2 ^ 24) work.values.items
  pub replies : vec_len work.replies ≤ vec_capacity work.replies
  pub nodes : AreNodes class_of code values phase setup parts work room

-- how many entries may still come: fewer than 2^64 in each block, of a frame or more, and in the flush
abbrev pub entries_left : ℕ → ℕ → Bool → ℕ
entries_left length at flushed = if flushed then 0 else (length + 1 - at) * 2 ^ 64

abbrev pub IsEngine : {P : Type 0} → (ℕ → Class) → (P → ℕ) → (P → List ℕ) → (P → Phase) → (P → Setup) → Parts P → Work → Type 0
IsEngine class_of code values phase setup parts work = IsReadyFor class_of code values phase setup parts work (entries_left parts.session.length work.pos work.flushed)

-- All nodes over a block.
use Rattle.std.specs.Prelude.{◌≡◌, ◌<◌, ◌≤◌, ◌*◌, ⊤, ℕ, List, [], ◌∷◌, ◌++◌, length, slice_index_or, All, Contains, true, ℤ, Vec}
use Rattle.std.specs.declared.alloc.Global.{Global}
use Rattle.vh_component.specs.declared.setup.Phase.{Phase}
use Rattle.vh_component.specs.declared.setup.Phase.TheVariants.{Processing}
use Rattle.vh_component.specs.declared.setup.Setup.{Setup}
use Rattle.vh_plugin.specs.Class.{Class, State}
use Rattle.vh_points.specs.Model.{most_points}
use Rattle.vh_session.specs.declared.wire.End.{End}
use Rattle.vh_session.specs.declared.wire.End.TheVariants.{In, Out, Node as AtNode}
use Rattle.vh_engine.specs.declared.control.Control.{Control}
use Rattle.vh_engine.specs.declared.seat.Seat.{Seat}
use Rattle.vh_engine.specs.declared.space.Space.{Space}
use Rattle.vh_engine.specs.declared.span.Span.{Span}
use Rattle.vh_engine.specs.Buses.{row_at}
use Rattle.vh_engine.specs.Nodes.{values_in, sent_of, AreOf, AreBehind, stream_of, IsRun, main_of, aux_of}
use Rattle.vh_engine.specs.Queued.{most_queues, AreControls}
use Rattle.vh_engine.specs.Staged.{board_at}

-- what a node came to in a block in which the input and the nodes gave these samples, and it gave its own
pub record HasRun (class : Class) (channels : ℕ) (span : Span) (ins : List ℤ) (rows : List (List ℤ)) (seat : Seat) (node : ℕ) (old new : List Control) (before after : State) (samples : List ℤ) : Type 0 where
  pub run : IsRun class (stream_of channels (values_in span node old) (main_of channels span.frames ins rows seat) (aux_of channels span.frames ins rows seat)) span.frames before after samples
  pub behind : AreBehind span node old new

-- a wire begins at the input or at one of these nodes
abbrev pub IsFrom : List ℕ → End → Type 0
IsFrom placed In = ⊤
IsFrom placed Out = ⊥
IsFrom placed (AtNode node) = Contains placed node

-- these nodes stand behind those that are placed, each once and after its sources
abbrev pub AreAfter : ℕ → List Seat → List ℕ → List ℕ → Type 0
AreAfter count seats placed [] = (node : ℕ) → node < count → Contains placed node
AreAfter count seats placed (node ∷ order) =
    (node < count) × (¬ Contains placed node)
    × ((d : Seat) → All (IsFrom placed) (slice_index_or seats node d).main.items × All (IsFrom placed) (slice_index_or seats node d).aux.items)
    × AreAfter count seats (placed ++ node ∷ []) order

-- no more than so many wires reach a bus, and one reaches an aux bus only where the class has it
pub record IsSeat (class : Class) (seat : Seat) : Type 0 where
  pub main : length seat.main.items ≤ 256
  pub aux : length seat.aux.items ≤ 256
  pub has_aux : 0 < length seat.aux.items → class.aux ≡ true

-- room for so many samples, and for so many parameters in so many frames
pub record IsSpacious (space : Space) (samples params frames : ℕ) : Type 0 where
  pub sums : samples ≤ length space.sums.items
  pub main : samples ≤ length space.main.items
  pub aux : samples ≤ length space.aux.items
  pub out : samples ≤ length space.out.items
  pub queues : params ≤ most_queues space.points
  pub points : params * frames ≤ most_points space.points

-- what a block needs of a node: a processor that processes, of the session's channels and for so many frames, at the
-- values that were sent
pub record IsNodeReady (class : Class) (phase : Phase) (setup : Setup) (values : List ℕ) (channels params : ℕ) (span : Span) (node : ℕ) (seat : Seat) (controls : List Control) : Type 0 where
  pub phase_is : phase ≡ Processing
  pub channels_are : setup.channels ≡ channels
  pub most : span.frames ≤ setup.max
  pub of : AreOf class.params controls
  pub sent : values ≡ sent_of controls
  pub controls_are : AreControls span node controls
  pub few : length controls ≤ params
  pub seat_is : IsSeat class seat

-- what the flush needs of a node
pub record IsFlushReady (class : Class) (phase : Phase) (values : List ℕ) (params : ℕ) (span : Span) (node : ℕ) (controls : List Control) : Type 0 where
  pub phase_is : phase ≡ Processing
  pub of : AreOf class.params controls
  pub sent : values ≡ sent_of controls
  pub controls_are : AreControls span node controls
  pub few : length controls ≤ params

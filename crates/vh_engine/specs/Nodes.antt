-- A node over a block, and all nodes.
use Rattle.std.specs.Prelude.{◌≡◌, ◌<◌, ◌+◌, ◌==◌, ℕ, List, length, map, slice_index_or, Option, None, Some, ℤ, if◌then◌else◌}
use Rattle.vh_num.specs.Frames.{Frame, frame_at}
use Rattle.vh_params.specs.Flags.{is_read_only}
use Rattle.vh_plugin.specs.Class.{Param, Class, State}
use Rattle.vh_plugin.specs.Streams.{Stream, state_over, output_over}
use Rattle.vh_meaning.specs.Mix.{mix, mix_of_some}
use Rattle.vh_engine.specs.declared.control.Control.{Control}
use Rattle.vh_engine.specs.declared.seat.Seat.{Seat}
use Rattle.vh_engine.specs.declared.span.Span.{Span}
use Rattle.vh_engine.specs.Buses.{reaching}
use Rattle.vh_engine.specs.Sent.{value_in, IsBehind}

-- the values of a node's parameters at a place of a block
abbrev pub values_in : Span → ℕ → List Control → ℕ → List ℕ
values_in span node controls place = map (λ control. value_in span node control (span.from + place)) controls

-- what its processor has
abbrev pub sent_of : List Control → List ℕ
sent_of controls = map (λ control. control.sent) controls

-- the parameters are a class's
pub record AreOf (params : List Param) (controls : List Control) : Type 0 where
  pub ids : map (λ control. control.id) controls ≡ map (λ param. param.id) params
  pub steps : map (λ control. control.steps) controls ≡ map (λ param. param.steps) params
  pub shown : map (λ control. control.shown) controls ≡ map (λ param. is_read_only param.flags) params

-- each parameter is behind a block
pub record AreBehind (span : Span) (node : ℕ) (old new : List Control) : Type 0 where
  pub long : length new ≡ length old
  pub each : (k : ℕ) (d : Control) → k < length old → IsBehind span node (slice_index_or old k d) (slice_index_or new k d)

-- an aux frame, none where there are no samples
abbrev pub aux_frame : ℕ → ℕ → List ℤ → ℕ → Option Frame
aux_frame channels n samples place = if length samples == 0 then None else Some (frame_at channels n samples place)

-- what a node is given in a block
abbrev pub stream_of : ℕ → (ℕ → List ℕ) → (ℕ → Frame) → (ℕ → Option Frame) → Stream
stream_of channels values main aux = record { channels = channels; values = values; main = main; aux = aux }

-- a node's samples and its state after a block are those of its class
pub record IsRun (class : Class) (stream : Stream) (n : ℕ) (old new : State) (samples : List ℤ) : Type 0 where
  pub frames : (place : ℕ) → place < n → frame_at stream.channels n samples place ≡ output_over class old stream place
  pub state : new ≡ state_over class old stream n

-- what reaches a seat
abbrev pub main_of : ℕ → ℕ → List ℤ → List (List ℤ) → Seat → ℕ → Frame
main_of channels n ins rows seat place = mix channels (reaching channels n ins rows seat.main.items place)

abbrev pub aux_of : ℕ → ℕ → List ℤ → List (List ℤ) → Seat → ℕ → Option Frame
aux_of channels n ins rows seat place = mix_of_some channels (reaching channels n ins rows seat.aux.items place)

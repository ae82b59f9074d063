-- What nodes came to in a block is a trace of the scene.
use Rattle.std.proofs.Common.{◌≡◌, ◌∙◌, ℕ, suc, ◌+◌, ◌<◌, Bool, true, false, List, map, Option, ℤ, refl, sym, ap, arith}
use Rattle.vh_num.specs.Frames.{Frame, frame_at}
use Rattle.vh_plugin.specs.Class.{State}
use Rattle.vh_plugin.specs.Streams.{Stream, state_over}
use Rattle.vh_session.specs.Content.{sources_into}
use Rattle.vh_session.specs.declared.wire.End.{End}
use Rattle.vh_session.specs.declared.wire.End.TheVariants.{Node as AtNode}
use Rattle.vh_session.specs.declared.wire.Wire.{Wire}
use Rattle.vh_meaning.specs.Mix.{mix, mix_of_some, brought, arriving, main_mix, aux_mix}
use Rattle.vh_meaning.specs.Scene.{Scene, node_count, class_at}
use Rattle.vh_meaning.specs.Frames.{stepped}
use Rattle.vh_meaning.specs.Trace.{IsConsistent, IsTrace}
use Rattle.vh_meaning.proofs.Reaching.{by_parts}
use Rattle.vh_engine.specs.declared.control.Control.{Control}
use Rattle.vh_engine.specs.declared.seat.Seat.{Seat}
use Rattle.vh_engine.specs.declared.span.Span.{Span}
use Rattle.vh_engine.specs.Buses.{row_at, reaching}
use Rattle.vh_engine.specs.Nodes.{values_in, stream_of, IsRun, main_of, aux_of}
use Rattle.vh_engine.specs.Runs.{HasRun}
use Rattle.vh_engine.specs.Staged.{board_at}
use Rattle.vh_engine.proofs.Alike.{run_alike}
use Rattle.vh_engine.proofs.Wired.{ends_bring}

-- a node sits where the wires say
pub record IsSeated (wires : List Wire) (node : ℕ) (seat : Seat) : Type 0 where
  pub main : seat.main.items ≡ sources_into wires (AtNode node) false
  pub aux : seat.aux.items ≡ sources_into wires (AtNode node) true

-- a block of a scene, in which the nodes gave these rows
module _ (scene : Scene) (span : Span) (ins : List ℤ) (rows : List (List ℤ)) (boards : List (List Control)) (before : ℕ → State) where
  -- each node's frame at a place of the block
  abbrev pub frames_over : ℕ → ℕ → Frame
  frames_over place node = frame_at scene.channels span.frames (row_at rows node) place

  -- what reaches a node there
  abbrev pub main_over : ℕ → ℕ → Frame
  main_over node place = main_mix scene.channels scene.wires (frame_at scene.channels span.frames ins place) (frames_over place) (AtNode node)

  abbrev pub aux_over : ℕ → ℕ → Option Frame
  aux_over node place = aux_mix scene.channels scene.wires (frame_at scene.channels span.frames ins place) (frames_over place) (AtNode node)

  -- what it is given over the block
  abbrev pub streamed : ℕ → Stream
  streamed node = stream_of scene.channels (values_in span node (board_at boards node)) (main_over node) (aux_over node)

  -- its state before a place of it
  abbrev pub states_over : ℕ → ℕ → State
  states_over place node = state_over (class_at scene node) (before node) (streamed node) place

  -- what its seat brings is what reaches it
  arrives : (ends : List End) (node : ℕ) (aux : Bool) (place : ℕ) → ends ≡ sources_into scene.wires (AtNode node) aux
      → reaching scene.channels span.frames ins rows ends place ≡ arriving scene.wires (frame_at scene.channels span.frames ins place) (frames_over place) (AtNode node) aux
  arrives ends node aux place is =
      ap (λ (es : List End). map (brought (frame_at scene.channels span.frames ins place) (frames_over place)) es) is
      ∙ ends_bring scene.wires (AtNode node) aux (frame_at scene.channels span.frames ins place) (frames_over place)

  pub run_over : (node : ℕ) (seat : Seat) (new : List Control) (after : State) → IsSeated scene.wires node seat
      → HasRun (class_at scene node) scene.channels span ins rows seat node (board_at boards node) new (before node) after (row_at rows node)
      → IsRun (class_at scene node) (streamed node) span.frames (before node) after (row_at rows node)
  run_over node seat new after seated is =
      run_alike (class_at scene node) (before node) scene.channels span.frames (values_in span node (board_at boards node)) (main_of scene.channels span.frames ins rows seat) (main_over node) (aux_of scene.channels span.frames ins rows seat) (aux_over node)
      (λ place lt. ap (mix scene.channels) (arrives seat.main.items node false place seated.main)) (λ place lt. ap (mix_of_some scene.channels) (arrives seat.aux.items node true place seated.aux))
      after (row_at rows node) (row_at rows node) (λ place lt. refl) is.run

  module _ (after : ℕ → State) (values : ℕ → ℕ → List ℕ) (input : ℕ → Frame)
      (run : (node : ℕ) → node < node_count scene → IsRun (class_at scene node) (streamed node) span.frames (before node) (after node) (row_at rows node))
      (valued : (place node : ℕ) → place < span.frames → node < node_count scene → values place node ≡ values_in span node (board_at boards node) place)
      (comes : (place : ℕ) → place < span.frames → input place ≡ frame_at scene.channels span.frames ins place) where
    main_arrives : (place node : ℕ) → place < span.frames → main_over node place ≡ main_mix scene.channels scene.wires (input place) (frames_over place) (AtNode node)
    main_arrives place node lt = ap (λ (frame : Frame). main_mix scene.channels scene.wires frame (frames_over place) (AtNode node)) (sym (comes place lt))

    aux_arrives : (place node : ℕ) → place < span.frames → aux_over node place ≡ aux_mix scene.channels scene.wires (input place) (frames_over place) (AtNode node)
    aux_arrives place node lt = ap (λ (frame : Frame). aux_mix scene.channels scene.wires frame (frames_over place) (AtNode node)) (sym (comes place lt))

    consistent_over : (place : ℕ) → place < span.frames → IsConsistent scene (states_over place) (values place) (input place) (frames_over place)
    consistent_over place lt node within =
        (run node within).frames place lt
        ∙ by_parts ((class_at scene node).output scene.channels) (states_over place node) (states_over place node) (values_in span node (board_at boards node) place) (values place node) _ _ _ _ refl
        (sym (valued place node lt within)) (main_arrives place node lt) (aux_arrives place node lt)

    moves_over : (place node : ℕ) → place < span.frames → node < node_count scene → states_over (place + 1) node ≡ stepped scene (states_over place) (values place) (input place) (frames_over place) node
    moves_over place node lt within =
        let next : place + 1 ≡ suc place = omega arith in
        ap (λ (m : ℕ). states_over m node) next
        ∙ by_parts ((class_at scene node).next scene.channels) (states_over place node) (states_over place node) (values_in span node (board_at boards node) place) (values place node) _ _ _ _ refl
        (sym (valued place node lt within)) (main_arrives place node lt) (aux_arrives place node lt)

    pub trace_of_runs : IsTrace scene span.frames values input states_over frames_over
    trace_of_runs = record { consistent = λ place lt. consistent_over place lt; moves = moves_over }

    -- and it ends in the states that the nodes came to
    pub state_after : (node : ℕ) → node < node_count scene → states_over span.frames node ≡ after node
    state_after node within = sym (run node within).state

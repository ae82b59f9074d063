-- What arrives at a node.
use Rattle.std.specs.Prelude.{ℕ, ◌==◌, ◌&&◌, Bool, true, false, not, List, [], ◌∷◌, map, filter, Option, Some, None, if◌then◌else◌}
use Rattle.std.specs.List.{range_with_len}
use Rattle.vh_num.specs.Samples.{clamp_of}
use Rattle.vh_num.specs.Laws.{sum_of, in_lane}
use Rattle.vh_num.specs.Frames.{Frame}
use Rattle.vh_session.specs.declared.wire.End.{End}
use Rattle.vh_session.specs.declared.wire.End.TheVariants.{In, Out, Node as AtNode}
use Rattle.vh_session.specs.declared.wire.Wire.{Wire}

-- the ends of wires are the same
abbrev pub is_at : End → End → Bool
is_at In In = true
is_at In Out = false
is_at In (AtNode node) = false
is_at Out In = false
is_at Out Out = true
is_at Out (AtNode node) = false
is_at (AtNode node) In = false
is_at (AtNode node) Out = false
is_at (AtNode node) (AtNode other) = node == other

-- a wire leads to this end's main bus, or to its aux bus
abbrev pub reaches : End → Bool → Wire → Bool
reaches to aux wire = is_at wire.to to && (if aux then wire.aux else not wire.aux)

-- the frame that a wire brings, from the input or from a node
abbrev pub brought : Frame → (ℕ → Frame) → End → Frame
brought input frames In = input
brought input frames Out = []
brought input frames (AtNode node) = frames node

-- the frames that reach a bus, wire by wire
abbrev pub arriving : List Wire → Frame → (ℕ → Frame) → End → Bool → List Frame
arriving wires input frames to aux = map (λ wire. brought input frames wire.from) (filter (reaches to aux) wires)

-- in each channel the exact sum, clamped once
abbrev pub mix : ℕ → List Frame → Frame
mix channels frames = map (λ channel. clamp_of (sum_of (in_lane channel frames))) (range_with_len 0 channels)

-- what reaches a main bus: silence where no wire does
abbrev pub main_mix : ℕ → List Wire → Frame → (ℕ → Frame) → End → Frame
main_mix channels wires input frames to = mix channels (arriving wires input frames to false)

-- none where there are no frames
abbrev pub mix_of_some : ℕ → List Frame → Option Frame
mix_of_some channels [] = None
mix_of_some channels (frame ∷ frames) = Some (mix channels (frame ∷ frames))

-- what reaches an aux bus: none where no wire does
abbrev pub aux_mix : ℕ → List Wire → Frame → (ℕ → Frame) → End → Option Frame
aux_mix channels wires input frames to = mix_of_some channels (arriving wires input frames to true)

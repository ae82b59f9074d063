-- The frames that a WAV file holds.
use Rattle.std.specs.Prelude.{◌≡◌, ℕ, ◌+◌, ◌<◌, List, map, replicate, slice_index_or, ℤ, pos}
use Rattle.std.specs.List.{range_with_len}
use Rattle.vh_num.specs.Frames.{Frame, frame_at}
use Rattle.vh_wav.specs.declared.head.Head.{Head}
use Rattle.vh_wav.specs.Samples.{sample_in}

-- a frame of the file: its samples, the first channel's first
abbrev pub frame_in : List ℕ → Head → ℕ → Frame
frame_in bytes head frame = map (λ channel. sample_in bytes head channel frame) (range_with_len 0 head.channels)

-- the frames of the data that a head tells, in their order
abbrev pub frames_in : List ℕ → Head → List Frame
frames_in bytes head = map (frame_in bytes head) (range_with_len 0 head.frames)

-- a frame without sound
abbrev pub silence : ℕ → Frame
silence channels = replicate channels (pos 0)

-- samples that stand channel after channel, n of each, are the file's frames from this one on, and
-- silence past its last
abbrev pub HoldsFrames : List ℕ → Head → ℕ → ℕ → List ℤ → Type 0
HoldsFrames bytes head from n samples =
    (place : ℕ) → place < n → frame_at head.channels n samples place ≡ slice_index_or (frames_in bytes head) (from + place) (silence head.channels)

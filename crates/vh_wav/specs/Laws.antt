-- What a WAV file holds, and what is read of a file that was written.
use Rattle.std.specs.Prelude.{◌≡◌, ℕ, ◌+◌, ◌*◌, ◌<◌, ◌≤◌, ◌^◌, ◌==◌, List, [], length, map, take, drop, All, Ok, ℤ, pos, ◌*ℤ◌, ◌⊎◌, slice_index_or, if◌then◌else◌}
use Rattle.vh_wav.specs.declared.head.Head.{Head}
use Rattle.vh_wav.specs.Judged.{wav_head}
use Rattle.vh_wav.specs.Samples.{sample_in}
use Rattle.vh_wav.specs.Text.{rounded, wav_text}
use Rattle.vh_wav.specs.Frames.{frames_in, HoldsFrames}
use Rattle.vh_wav.specs.Heads.{IsHead}
use Rattle.vh_num.specs.Frames.{Frame, frames_of}

-- each frame has so many channels
abbrev pub HasChannels : ℕ → List Frame → Type 0
HasChannels channels frames = All (λ frame. length frame ≡ channels) frames

-- a file with these bytes has this head and these frames
pub record IsWav (bytes : List ℕ) (head : Head) (frames : List Frame) : Type 0 where
  pub head_is : wav_head bytes ≡ Ok head
  pub count : length frames ≡ head.frames
  pub channels : HasChannels head.channels frames
  pub samples : (frame channel : ℕ) → frame < head.frames → channel < head.channels
      → slice_index_or (slice_index_or frames frame []) channel (pos 0) ≡ sample_in bytes head channel frame

-- frames that a file can have
pub record IsWritable (channels rate bits : ℕ) (frames : List Frame) : Type 0 where
  pub some_channels : (channels ≡ 1) ⊎ (channels ≡ 2)
  pub width : (bits ≡ 16) ⊎ (bits ≡ 24)
  pub some_rate : 1 ≤ rate
  pub rate_most : rate ≤ 768000
  pub frames_most : length frames ≤ 2 ^ 24
  pub frames_channels : HasChannels channels frames

-- a sample as it is read back: rounded to the file's bits, in units of 2^-23 of full scale
abbrev pub read_back : ℕ → ℤ → ℤ
read_back bits x = if bits == 16 then rounded 16 x *ℤ pos 256 else rounded 24 x

-- a written file is read back as its rounded frames
abbrev pub WrittenIsRead : Type 0
WrittenIsRead = (channels rate bits : ℕ) (frames : List Frame) → IsWritable channels rate bits frames
    → IsWav (wav_text channels rate bits frames) (record { channels = channels; rate = rate; bits = bits; at = 44; frames = length frames }) (map (map (read_back bits)) frames)

-- a file whose head is accepted has the frames of that head's data, and no others
abbrev pub HoldsItsFrames : Type 0
HoldsItsFrames = (bytes : List ℕ) (head : Head) → wav_head bytes ≡ Ok head
    → IsWav bytes head (frames_in bytes head) × ((frames : List Frame) → IsWav bytes head frames → frames ≡ frames_in bytes head)

-- samples that hold the file's frames from one on are these frames, as a part of the file's list
abbrev pub BlockIsPart : Type 0
BlockIsPart = (bytes : List ℕ) (head : Head) (from n : ℕ) (samples : List ℤ) → IsHead head → length samples ≡ head.channels * n → from + n ≤ head.frames
    → HoldsFrames bytes head from n samples → frames_of head.channels samples ≡ take n (drop from (frames_in bytes head))

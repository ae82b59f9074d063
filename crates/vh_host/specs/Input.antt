-- The input of a rendering.
use Rattle.std.specs.Prelude.{◌≡◌, ◌<◌, ◌≤◌, ℕ, ◌==◌, List, slice_index_or, Result, Ok, Err, if◌then◌else◌}
use Rattle.vh_num.specs.Frames.{Frame, frame_at}
use Rattle.vh_wav.specs.declared.head.Head.{Head}
use Rattle.vh_wav.specs.declared.head.WavFault.{WavFault}
use Rattle.vh_wav.specs.declared.head.WavFault.TheVariants.{OtherChannels}
use Rattle.vh_wav.specs.Frames.{frames_in, silence}
use Rattle.vh_wav.specs.Judged.{wav_head}
use Rattle.vh_render.specs.declared.sound.Sound.{Sound}

-- what is heard: frames a second, and the frames
pub record Heard : Type 0 where
  pub rate : ℕ
  pub frames : List Frame

-- a head of so many channels, or why the file is refused
abbrev pub with_channels : ℕ → Result Head WavFault → Result Head WavFault
with_channels channels (Err fault) = Err fault
with_channels channels (Ok head) = if head.channels == channels then Ok head else Err (OtherChannels head.channels)

abbrev pub head_in : ℕ → List ℕ → Result Head WavFault
head_in channels bytes = with_channels channels (wav_head bytes)

-- a file of so many channels in which this is heard
pub record Hears (channels : ℕ) (bytes : List ℕ) (heard : Heard) : Type 0 where
  pub head : Head
  pub accepted : head_in channels bytes ≡ Ok head
  pub rate_is : heard.rate ≡ head.rate
  pub frames_are : heard.frames ≡ frames_in bytes head

-- sound of this rate, so many frames of each channel, is what is heard, and silence past its last frame
pub record IsHeard (channels frames : ℕ) (heard : Heard) (rate : ℕ) (sound : Sound) : Type 0 where
  pub rate_is : rate ≡ heard.rate
  pub rate_most : rate ≤ 768000
  pub channels_are : sound.channels ≡ channels
  pub frames_are : sound.frames ≡ frames
  pub samples_are : (place : ℕ) → place < frames → frame_at channels frames sound.samples.items place ≡ slice_index_or heard.frames place (silence channels)

-- The WAV file that is written: a head of 44 bytes, and the frames.
use Rattle.std.specs.Prelude.{ℕ, suc, ◌+◌, ◌*◌, ◌-◌, ◌/◌, ◌%◌, ◌^◌, min, ◌==◌, List, ◌++◌, length, replicate, ℤ, pos, negsuc, if◌then◌else◌, codes}
use Rattle.std.specs.List.{flat_map}
use Rattle.std.specs.Int.{bytes_low_first}
use Rattle.vh_num.specs.Samples.{floor_div}
use Rattle.vh_num.specs.Frames.{Frame}
use Rattle.vh_wav.specs.Judged.{align_of}

-- the lowest n bytes of a number, the least first
abbrev pub little_bytes : ℕ → ℕ → List ℕ
little_bytes n x = bytes_low_first 0 n x

-- the nearest number of so many bits with sign
abbrev pub clamp_to : ℕ → ℤ → ℤ
clamp_to bits (pos n) = pos (min n (2 ^ (bits - 1) - 1))
clamp_to bits (negsuc n) = negsuc (min n (2 ^ (bits - 1) - 1))

-- a sample as a number of so many bits: 16 of them are the upper ones
abbrev pub rounded : ℕ → ℤ → ℤ
rounded bits x = if bits == 16 then clamp_to 16 (floor_div x 256) else clamp_to 24 x

-- a number in two's complement of 32 bits
abbrev pub two_complement : ℤ → ℕ
two_complement (pos n) = n
two_complement (negsuc n) = 2 ^ 32 - suc n

-- the bytes of a sample
abbrev pub sample_bytes : ℕ → ℤ → List ℕ
sample_bytes bits x = little_bytes (bits / 8) (two_complement (rounded bits x))

-- the bytes of a frame, left first
abbrev pub frame_text : ℕ → Frame → List ℕ
frame_text bits frame = flat_map (sample_bytes bits) frame

abbrev pub frames_text : ℕ → List Frame → List ℕ
frames_text bits frames = flat_map (frame_text bits) frames

-- the bytes of the frames, and the byte that makes them even
abbrev pub data_size : ℕ → ℕ → ℕ → ℕ
data_size channels bits count = count * align_of channels bits

-- the head of a file with so many frames
unfoldable pub head_text : ℕ → ℕ → ℕ → ℕ → List ℕ
head_text channels rate bits count =
    let size = data_size channels bits count in
    let align = align_of channels bits in
    codes "RIFF" ++ little_bytes 4 (36 + size + size % 2) ++ codes "WAVE"
    ++ codes "fmt " ++ little_bytes 4 16 ++ little_bytes 2 1 ++ little_bytes 2 channels ++ little_bytes 4 rate ++ little_bytes 4 (rate * align) ++ little_bytes 2 align ++ little_bytes 2 bits
    ++ codes "data" ++ little_bytes 4 size

-- the file with these frames
unfoldable pub wav_text : ℕ → ℕ → ℕ → List Frame → List ℕ
wav_text channels rate bits frames =
    head_text channels rate bits (length frames) ++ (frames_text bits frames ++ replicate (data_size channels bits (length frames) % 2) 0)

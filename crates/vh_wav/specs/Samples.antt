-- Samples in a WAV file.
use Rattle.std.specs.Prelude.{◌≡◌, ℕ, suc, ◌+◌, ◌*◌, ◌-◌, ◌/◌, ◌^◌, ◌<◌, nat_lt, nat_le, ◌&&◌, ◌==◌, List, length, take, drop, ℤ, pos, negsuc, ◌*ℤ◌, if◌then◌else◌}
use Rattle.vh_files.specs.Fields.{field_at}
use Rattle.vh_wav.specs.declared.head.Head.{Head}
use Rattle.vh_wav.specs.Judged.{align_of}

-- the number that m stands for as so many bits in two's complement
abbrev pub signed : ℕ → ℕ → ℤ
signed bits m = if nat_lt m (2 ^ (bits - 1)) then pos m else negsuc (2 ^ bits - suc m)

-- the sample at a place, in units of 2^-23 of full scale
abbrev pub sample_at : ℕ → List ℕ → ℕ → ℤ
sample_at bits bytes at = if bits == 16 then signed 16 (field_at bytes at 2) *ℤ pos 256 else signed 24 (field_at bytes at 3)

-- a channel's sample in a frame of the file, and zero past the frames that are there
abbrev pub sample_in : List ℕ → Head → ℕ → ℕ → ℤ
sample_in bytes head channel frame =
    let align = align_of head.channels head.bits in
    if nat_lt frame head.frames && nat_le (head.at + (frame + 1) * align) (length bytes)
    then sample_at head.bits bytes (head.at + (frame * align + channel * (head.bits / 8))) else pos 0

-- of n frames from this one on, the first so many are those of the head whose bytes are all in the file
abbrev pub HasWhole : List ℕ → Head → ℕ → ℕ → ℕ → Type 0
HasWhole bytes head from n whole =
    (i : ℕ) → i < n → nat_lt i whole ≡ (nat_lt (from + i) head.frames && nat_le (head.at + (from + i + 1) * align_of head.channels head.bits) (length bytes))

-- the bytes of so many frames from this one on begin the buffer
abbrev pub HasBytes : List ℕ → Head → ℕ → ℕ → List ℕ → Type 0
HasBytes bytes head from whole buf =
    let align = align_of head.channels head.bits in
    take (whole * align) buf ≡ take (whole * align) (drop (head.at + from * align) bytes)

-- What a WAV file's bytes say before the first sample, or why it is refused.
use Rattle.std.specs.Prelude.{ℕ, ◌*◌, ◌/◌, Bool, not, ◌&&◌, ◌||◌, ◌==◌, nat_lt, nat_le, List, [], ◌∷◌, length, take, drop, Option, Some, None, Result, Ok, Err, if◌then◌else◌, codes}
use Rattle.std.specs.Str.{bytes_eq}
use Rattle.std.specs.Option.{option_or}
use Rattle.vh_files.specs.Fields.{field_at}
use Rattle.vh_wav.specs.declared.head.Head.{Head}
use Rattle.vh_wav.specs.declared.head.Format.{Format}
use Rattle.vh_wav.specs.declared.head.WavFault.{WavFault}
use Rattle.vh_wav.specs.declared.head.WavFault.TheVariants.{NotRiff, NoFmt, BadFmt, Unsupported, NoData, Truncated}
use Rattle.vh_wav.specs.Chunks.{Chunk, chunks_after}

-- the fault of the first of these rules that holds
abbrev pub first_fault : List (Bool × WavFault) → Option WavFault
first_fault [] = None
first_fault (rule ∷ rules) = if rule.0 then Some rule.1 else first_fault rules

-- the coding of plain integer samples, and the one that names its coding by a subformat
abbrev pub pcm_tag : ℕ
pcm_tag = 1

abbrev pub extensible_tag : ℕ
extensible_tag = 0xFFFE

-- the subformat of plain integer samples
abbrev pub pcm_subformat : List ℕ
pcm_subformat = 1 ∷ 0 ∷ 0 ∷ 0 ∷ 0 ∷ 0 ∷ 0x10 ∷ 0 ∷ 0x80 ∷ 0 ∷ 0 ∷ 0xAA ∷ 0 ∷ 0x38 ∷ 0x9B ∷ 0x71 ∷ []

-- the rules on the coding, for a `fmt ` body of this size with this front
abbrev pub coding_rules : ℕ → List ℕ → List (Bool × WavFault)
coding_rules size front =
    let tag = field_at front 0 2 in
    let bits = field_at front 14 2 in
    (nat_lt size 16, BadFmt)
    ∷ (not (tag == pcm_tag) && not (tag == extensible_tag), Unsupported tag bits)
    ∷ ((tag == extensible_tag) && nat_lt size 40, BadFmt)
    ∷ ((tag == extensible_tag) && not (bytes_eq (take 16 (drop 24 front)) pcm_subformat), Unsupported tag bits)
    ∷ []

-- the rules on the numbers
abbrev pub number_rules : List ℕ → List (Bool × WavFault)
number_rules front =
    let tag = field_at front 0 2 in
    let channels = field_at front 2 2 in
    let rate = field_at front 4 4 in
    let align = field_at front 12 2 in
    let bits = field_at front 14 2 in
    (not (bits == 16) && not (bits == 24), Unsupported tag bits)
    ∷ ((channels == 0) || (rate == 0), BadFmt)
    ∷ (nat_lt 2 channels || nat_lt 768000 rate, Unsupported tag bits)
    ∷ (not (align == channels * (bits / 8)), BadFmt)
    ∷ []

-- the first fault of a `fmt ` chunk
abbrev pub format_fault : ℕ → List ℕ → Option WavFault
format_fault size front = option_or (first_fault (coding_rules size front)) (first_fault (number_rules front))

abbrev pub format_in : List ℕ → Format
format_in front = record { channels = field_at front 2 2; rate = field_at front 4 4; bits = field_at front 14 2 }

-- a value, unless there is a fault
abbrev pub unless_fault : {T : Type 0} → Option WavFault → T → Result T WavFault
unless_fault None value = Ok value
unless_fault (Some fault) value = Err fault

-- the format of a `fmt ` chunk, or its first fault
abbrev pub format_of : ℕ → List ℕ → Result Format WavFault
format_of size front = unless_fault (format_fault size front) (format_in front)

-- the bytes of a frame
abbrev pub align_of : ℕ → ℕ → ℕ
align_of channels bits = channels * (bits / 8)

-- the samples of this format fill the chunk; a part of a frame at its end doesn't count
abbrev pub head_of : Format → Chunk → Head
head_of format c =
    record { channels = format.channels; rate = format.rate; bits = format.bits; at = c.at; frames = c.size / align_of format.channels format.bits }

-- what is wrong with a file that has no further chunk
abbrev pub missing : Option Format → WavFault
missing None = NoFmt
missing (Some format) = NoData

-- what follows from a format, unless it is refused
abbrev pub unless_refused : Result Format WavFault → (Format → Result Head WavFault) → Result Head WavFault
unless_refused (Err fault) next = Err fault
unless_refused (Ok format) next = next format

-- The verdict on the chunks of a file, in their order, where this format was met so far: each body
-- has to end within the file; the first `fmt ` is judged, and the first `data` has the samples.
abbrev pub verdict : Option Format → List Chunk → Result Head WavFault
verdict format [] = Err (missing format)
verdict None (c ∷ cs) =
    if not c.fits then Err Truncated
    else (if bytes_eq c.id (codes "fmt ") then unless_refused (format_of c.size c.front) (λ format. verdict (Some format) cs)
    else (if bytes_eq c.id (codes "data") then Err NoFmt
    else verdict None cs))
verdict (Some format) (c ∷ cs) =
    if not c.fits then Err Truncated
    else (if bytes_eq c.id (codes "data") then Ok (head_of format c)
    else verdict (Some format) cs)

-- the marks of a RIFF WAVE file
abbrev pub is_riff : List ℕ → Bool
is_riff bytes = nat_le 12 (length bytes) && (bytes_eq (take 4 bytes) (codes "RIFF") && bytes_eq (take 4 (drop 8 bytes)) (codes "WAVE"))

-- the head of a WAV file, or the first fault
unfoldable pub wav_head : List ℕ → Result Head WavFault
wav_head bytes = if is_riff bytes then verdict None (chunks_after 12 0 bytes) else Err NotRiff

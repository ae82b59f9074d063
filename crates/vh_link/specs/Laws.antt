-- What is read of a file that was written.
use Rattle.std.specs.Prelude.{◌≡◌, ◌≢◌, ℕ, List, length, map, Some, Ok}
use Rattle.vh_files.specs.Store.{Held, told}
use Rattle.vh_num.specs.Frames.{Frame}
use Rattle.vh_wav.specs.declared.head.Head.{Head}
use Rattle.vh_wav.specs.Judged.{wav_head}
use Rattle.vh_wav.specs.Laws.{IsWritable, read_back}
use Rattle.vh_wav.specs.Text.{wav_text}
use Rattle.vh_link.specs.Link.{HasLeft}

-- the head of a file that was written
abbrev pub written_head : ℕ → ℕ → ℕ → List Frame → Head
written_head channels rate bits frames = record { channels = channels; rate = rate; bits = bits; at = 44; frames = length frames }

-- a file that was written whole has the head that was written, and under it its rounded frames are left to read
abbrev pub WrittenIsRead : Type 0
WrittenIsRead = (held : Held) (name other : List ℕ) (channels rate bits : ℕ) (frames : List Frame) → IsWritable channels rate bits frames
    → told held name ≡ Some (wav_text channels rate bits frames) → name ≢ other
    → (wav_head (wav_text channels rate bits frames) ≡ Ok (written_head channels rate bits frames))
    × HasLeft held name other (written_head channels rate bits frames) 0 (map (map (read_back bits)) frames)

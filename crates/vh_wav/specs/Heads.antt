-- Heads, and what the reader of one answers.
use Rattle.std.specs.Prelude.{◌≡◌, ℕ, ◌+◌, ◌*◌, ◌≤◌, ◌<◌, min, true, false, List, length, take, drop, Option, Some, None, IfSome, Result, Ok, Err, ◌⊎◌, ⊤}
use Rattle.vh_files.specs.Fields.{field_at}
use Rattle.vh_wav.specs.declared.chunk.Chunk.{Chunk as Seen}
use Rattle.vh_wav.specs.declared.head.Judged.{Judged}
use Rattle.vh_wav.specs.declared.head.Judged.TheVariants.{Found, Walk}
use Rattle.vh_wav.specs.declared.head.WavFault.TheVariants.{Truncated}
use Rattle.vh_wav.specs.Chunks.{Chunk, chunk_at, front_size}
use Rattle.vh_wav.specs.declared.head.Head.{Head}
use Rattle.vh_wav.specs.declared.head.Format.{Format}
use Rattle.vh_wav.specs.declared.head.WavFault.{WavFault}
use Rattle.vh_wav.specs.declared.head.HeadRefused.{HeadRefused}
use Rattle.vh_wav.specs.declared.head.HeadRefused.TheVariants.{Wav, Failed}
use Rattle.vh_wav.specs.Judged.{align_of, verdict}

-- a head that a file may have
pub record IsHead (head : Head) : Type 0 where
  pub channels : (head.channels ≡ 1) ⊎ (head.channels ≡ 2)
  pub bits : (head.bits ≡ 16) ⊎ (head.bits ≡ 24)
  pub some_rate : 1 ≤ head.rate
  pub rate : head.rate ≤ 768000

-- a format that a file may have
pub record IsFormat (format : Format) : Type 0 where
  pub channels : (format.channels ≡ 1) ⊎ (format.channels ≡ 2)
  pub bits : (format.bits ≡ 16) ⊎ (format.bits ≡ 24)
  pub some_rate : 1 ≤ format.rate
  pub rate : format.rate ≤ 768000

-- where the frames of a head end
abbrev pub frames_end : Head → ℕ
frames_end head = head.at + head.frames * align_of head.channels head.bits

-- the chunk that was read is this one
pub record IsSeen (seen : Seen) (chunk : Chunk) : Type 0 where
  pub id : take 4 seen.bytes ≡ chunk.id
  pub size : field_at seen.bytes 4 4 ≡ chunk.size
  pub at : seen.at ≡ chunk.at
  pub front : take (min (field_at seen.bytes 4 4) front_size) (drop 8 seen.bytes) ≡ chunk.front

-- what a read at a place of a file found: fewer than eight bytes, a chunk, or one that passes the end
abbrev pub IsRead : List ℕ → ℕ → Result (Option Seen) HeadRefused → Type 0
IsRead bytes at (Ok None) = length (drop at bytes) < 8
IsRead bytes at (Ok (Some seen)) = (8 ≤ length (drop at bytes)) × IsSeen seen (chunk_at at (drop at bytes)) × ((chunk_at at (drop at bytes)).fits ≡ true)
IsRead bytes at (Err (Wav fault)) = (fault ≡ Truncated) × (8 ≤ length (drop at bytes)) × ((chunk_at at (drop at bytes)).fits ≡ false)
IsRead bytes at (Err Failed) = ⊤

-- the verdict where a chunk decides so and these chunks follow
abbrev pub continued : Result Judged WavFault → List Chunk → Result Head WavFault
continued (Err fault) chunks = Err fault
continued (Ok (Found head)) chunks = Ok head
continued (Ok (Walk format)) chunks = verdict format chunks

-- the head, or the format that the walk goes on with, is one that a file may have, and the frames of
-- the head end with the chunk
abbrev pub IsLawful : ℕ → Judged → Type 0
IsLawful end (Found head) = IsHead head × (frames_end head ≤ end)
IsLawful end (Walk format) = IfSome format IsFormat

-- an answer that isn't a failed read is the verdict
abbrev pub IsVerdict : Result Head WavFault → Result Head HeadRefused → Type 0
IsVerdict verdict (Ok head) = verdict ≡ Ok head
IsVerdict verdict (Err (Wav fault)) = verdict ≡ Err fault
IsVerdict verdict (Err Failed) = ⊤

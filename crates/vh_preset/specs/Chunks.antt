-- The chunks of a preset that is written.
use Rattle.std.specs.Prelude.{ℕ, ◌+◌, List, [], ◌∷◌, ◌++◌, length, Option, Some, None, option_copied, if◌then◌else◌, codes}
use Rattle.std.specs.List.{sum_by}
use Rattle.std.specs.Str.{bytes_eq}
use Rattle.vh_preset.specs.declared.chunks.Chunks.{Chunks as Given}

-- the chunks, where they are present
pub record Chunks : Type 0 where
  pub comp : Option (List ℕ)
  pub cont : Option (List ℕ)
  pub prog : Option (List ℕ)
  pub info : Option (List ℕ)

abbrev pub chunks_of : Given → Chunks
chunks_of given =
    record { comp = option_copied given.comp; cont = option_copied given.cont; prog = option_copied given.prog; info = option_copied given.info }

-- the chunk of this id
abbrev pub chunk_of : Chunks → List ℕ → Option (List ℕ)
chunk_of chunks id =
    if bytes_eq (codes "Comp") id then chunks.comp
    else (if bytes_eq (codes "Cont") id then chunks.cont
    else (if bytes_eq (codes "Prog") id then chunks.prog
    else (if bytes_eq (codes "Info") id then chunks.info else None)))

-- a chunk that is present
pub record Part : Type 0 where
  pub id : List ℕ
  pub bytes : List ℕ

-- the chunk of this id, where it is present
abbrev pub present : List ℕ → Option (List ℕ) → List Part
present id None = []
present id (Some bytes) = record { id = id; bytes = bytes } ∷ []

-- the chunks that are present, in the order in which they are written
abbrev pub parts_of : Chunks → List Part
parts_of chunks =
    present (codes "Comp") chunks.comp ++ present (codes "Cont") chunks.cont
    ++ present (codes "Prog") chunks.prog ++ present (codes "Info") chunks.info

-- the bytes of a chunk, none where it isn't present
abbrev pub chunk_size : Option (List ℕ) → ℕ
chunk_size None = 0
chunk_size (Some bytes) = length bytes

-- the bytes that the chunks have together
abbrev pub chunks_size : Chunks → ℕ
chunks_size chunks = chunk_size chunks.comp + chunk_size chunks.cont + chunk_size chunks.prog + chunk_size chunks.info

-- the bytes that some chunks have together
abbrev pub size_of : List Part → ℕ
size_of parts = sum_by (λ part. length part.bytes) parts

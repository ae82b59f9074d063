-- The chunks of a RIFF file: an identifier of four bytes, a size of four bytes, a body of that size,
-- and a pad byte where the size is odd.
use Rattle.std.specs.Prelude.{ℕ, zero, suc, ◌+◌, ◌-◌, ◌%◌, min, Bool, nat_lt, nat_le, List, [], ◌∷◌, length, take, drop, if◌then◌else◌}
use Rattle.vh_files.specs.Fields.{field_at}

-- a chunk: where its body stands, the front of the body, and whether the body ends within the file
pub record Chunk : Type 0 where
  pub id : List ℕ
  pub size : ℕ
  pub at : ℕ
  pub front : List ℕ
  pub fits : Bool

-- how much of a body is looked at
abbrev pub front_size : ℕ
front_size = 40

-- the chunk at the head of these bytes, which stand at this place of the file
abbrev pub chunk_at : ℕ → List ℕ → Chunk
chunk_at at bytes =
    let size = field_at bytes 4 4 in
    record {
      id = take 4 bytes;
      size = size;
      at = at + 8;
      front = take (min size front_size) (drop 8 bytes);
      fits = nat_le size (length bytes - 8);
    }

-- the chunks after so many bytes more, of the bytes from this place on; fewer than eight bytes are no
-- chunk
abbrev pub chunks_after : ℕ → ℕ → List ℕ → List Chunk
chunks_after skip at [] = []
chunks_after (suc skip) at (b ∷ bs) = chunks_after skip (at + 1) bs
chunks_after zero at (b ∷ bs) =
    if nat_lt (length bs) 7 then []
    else chunk_at at (b ∷ bs) ∷ chunks_after (7 + (field_at (b ∷ bs) 4 4 + field_at (b ∷ bs) 4 4 % 2)) (at + 1) bs

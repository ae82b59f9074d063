-- The preset file that is written.
use Rattle.std.specs.Prelude.{ℕ, ◌+◌, List, [], ◌∷◌, ◌++◌, length, codes}
use Rattle.std.specs.List.{flat_map}
use Rattle.byteorder.specs.Endian.{little_bytes}
use Rattle.hex.specs.Hex.{encode_upper}
use Rattle.vh_ids.specs.declared.tuid.Tuid.{Tuid}
use Rattle.vh_preset.specs.Chunks.{Chunks, Part, parts_of, size_of}

-- the head of a file of this class, whose chunk list stands at this place
abbrev pub head_text : Tuid → ℕ → List ℕ
head_text class list = codes "VST3" ++ little_bytes 4 1 ++ encode_upper class.0 ++ little_bytes 8 list

-- the entry of a chunk at this place
abbrev pub entry_text : ℕ → Part → List ℕ
entry_text at part = part.id ++ little_bytes 8 at ++ little_bytes 8 (length part.bytes)

-- the entries of chunks that stand one after the other from this place on
abbrev pub entries_text : ℕ → List Part → List ℕ
entries_text at [] = []
entries_text at (part ∷ parts) = entry_text at part ++ entries_text (at + length part.bytes) parts

-- the chunk list of these chunks
abbrev pub list_text : List Part → List ℕ
list_text parts = codes "List" ++ little_bytes 4 (length parts) ++ entries_text 48 parts

-- the file with these chunks: the head, the chunks, and their list
abbrev pub file_text : Tuid → List Part → List ℕ
file_text class parts = head_text class (48 + size_of parts) ++ (flat_map (λ part. part.bytes) parts ++ list_text parts)

unfoldable pub preset_text : Tuid → Chunks → List ℕ
preset_text class chunks = file_text class (parts_of chunks)

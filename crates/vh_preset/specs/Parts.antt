-- The chunks that the writer goes over.
use Rattle.std.specs.Prelude.{ℕ, List, length}
use Rattle.std.specs.List.{flat_map, sum_by}
use Rattle.vh_preset.specs.declared.writer.Part.{Part as Given}
use Rattle.vh_preset.specs.Chunks.{Part}

abbrev pub part_of : Given → Part
part_of given = record { id = given.id; bytes = given.bytes.now }

-- how many bytes they have together
abbrev pub given_size : List Given → ℕ
given_size parts = sum_by (λ part. length part.bytes.now) parts

-- the bytes, one chunk after the other
abbrev pub given_bytes : List Given → List ℕ
given_bytes parts = flat_map (λ part. part.bytes.now) parts

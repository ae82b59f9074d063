-- The listing of a preset.
use Rattle.std.specs.Prelude.{ℕ, List, [], ◌∷◌, ◌++◌, codes}
use Rattle.std.specs.Fmt.{decimal}
use Rattle.hex.specs.Hex.{encode_upper}
use Rattle.vh_preset.specs.declared.preset.PresetEntry.{PresetEntry}
use Rattle.vh_preset.specs.Contents.{Contents}
use Rattle.vh_text.specs.Written.{line_text}

-- `class` and the digits of the class
abbrev pub class_words : Contents → List (List ℕ)
class_words preset = codes "class" ∷ encode_upper preset.class.0 ∷ []

-- `version V`
abbrev pub version_words : Contents → List (List ℕ)
version_words preset = codes "version" ∷ decimal preset.version ∷ []

-- `chunk ID OFFSET SIZE`, with the digits of the id
abbrev pub chunk_words : PresetEntry → List (List ℕ)
chunk_words entry = codes "chunk" ∷ encode_upper entry.id ∷ decimal entry.at ∷ decimal entry.size ∷ []

-- the lines before those of the chunks
abbrev pub first_lines : Contents → List ℕ
first_lines preset = line_text (codes "vsthost" ∷ codes "preset" ∷ codes "1" ∷ []) ++ (line_text (class_words preset) ++ line_text (version_words preset))

-- of all entries, in the file's order
abbrev pub chunks_text : List PresetEntry → List ℕ
chunks_text [] = []
chunks_text (entry ∷ entries) = line_text (chunk_words entry) ++ chunks_text entries

-- what is told of a preset
unfoldable pub listing_text : Contents → List ℕ
listing_text preset = first_lines preset ++ (chunks_text preset.entries ++ line_text (codes "close" ∷ []))

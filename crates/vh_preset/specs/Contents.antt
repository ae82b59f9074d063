-- What a preset file says.
use Rattle.std.specs.Prelude.{◌≡◌, ℕ, List, take, drop, Option, None, Ok, option_map}
use Rattle.std.specs.List.{find}
use Rattle.std.specs.Str.{bytes_eq}
use Rattle.hex.specs.Hex.{decode_of}
use Rattle.vh_ids.specs.declared.tuid.Tuid.{Tuid}
use Rattle.vh_preset.specs.declared.preset.PresetEntry.{PresetEntry}
use Rattle.vh_preset.specs.Form.{preset_fault, class_digits, version_in, entries_in}

-- the class, the version and the entries of the chunk list, and the whole file's bytes, in which the chunks stand
pub record Contents : Type 0 where
  pub class : Tuid
  pub version : ℕ
  pub entries : List PresetEntry
  pub bytes : List ℕ

-- these bytes are a preset file, and this is what it says
pub record IsPreset (file : List ℕ) (preset : Contents) : Type 0 where
  pub faultless : preset_fault file ≡ None
  pub class_is : decode_of (class_digits file) ≡ Ok preset.class.0
  pub version_is : preset.version ≡ version_in file
  pub entries_are : preset.entries ≡ entries_in file
  pub bytes_are : preset.bytes ≡ file

-- the bytes of an entry's chunk
abbrev pub chunk_at : List ℕ → PresetEntry → List ℕ
chunk_at bytes entry = take entry.size (drop entry.at bytes)

-- the chunk of the first entry of this id
abbrev pub chunk_in : Contents → List ℕ → Option (List ℕ)
chunk_in preset id = option_map (chunk_at preset.bytes) (find (λ entry. bytes_eq entry.id id) preset.entries)

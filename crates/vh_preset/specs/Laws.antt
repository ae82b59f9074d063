-- Laws of preset files.
use Rattle.std.specs.Prelude.{◌≡◌, ℕ, ◌≤◌, ◌^◌, List, length, MatchOption}
use Rattle.hex.specs.Hex.{IsBytes}
use Rattle.vh_ids.specs.declared.tuid.Tuid.{Tuid}
use Rattle.vh_preset.specs.Form.{preset_fault}
use Rattle.vh_preset.specs.Contents.{Contents, IsPreset, chunk_in}
use Rattle.vh_preset.specs.Chunks.{Chunks, chunk_of, chunks_size}
use Rattle.vh_preset.specs.Text.{preset_text}

-- bytes without a fault are one preset, and bytes with a fault are none
abbrev pub PresetOrFault : Type 0
PresetOrFault = (bytes : List ℕ)
    → MatchOption (preset_fault bytes) ((preset : Contents) × IsPreset bytes preset × ((other : Contents) → IsPreset bytes other → other ≡ preset)) (λ fault. (preset : Contents) → ¬ IsPreset bytes preset)

-- a preset of this class with these chunks, and no others
pub record HasChunks (class : Tuid) (chunks : Chunks) (preset : Contents) : Type 0 where
  pub class_is : preset.class ≡ class
  pub version_is : preset.version ≡ 1
  pub chunks_are : (id : List ℕ) → chunk_in preset id ≡ chunk_of chunks id

-- a written preset is read back: the same class and chunks
abbrev pub WrittenIsRead : Type 0
WrittenIsRead = (class : Tuid) (chunks : Chunks) → IsBytes class.0 → length class.0 ≡ 16 → chunks_size chunks ≤ 2 ^ 30
    → (preset : Contents) × IsPreset (preset_text class chunks) preset × HasChunks class chunks preset

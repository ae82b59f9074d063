-- How the presets of a session are read.
use Rattle.std.specs.Prelude.{◌≡◌, ◌≤◌, ◌<◌, ◌==◌, ℕ, List, length, Option, Some, None, ◌⊎◌}
use Rattle.std.specs.List.{find}
use Rattle.std.specs.Option.{option_map}
use Rattle.vh_answers.specs.declared.status.Place.{Place}
use Rattle.vh_answers.specs.declared.status.Place.TheVariants.{Preset}
use Rattle.vh_answers.specs.declared.status.Status.{Status}
use Rattle.vh_answers.specs.declared.status.Status.TheVariants as status
use Rattle.vh_answers.specs.Steps.{Step, Reads, Judges}
use Rattle.vh_preset.specs.declared.fault.PresetFault.{PresetFault}
use Rattle.vh_preset.specs.declared.fault.PresetRefusal.{PresetRefusal}
use Rattle.vh_preset.specs.declared.fault.PresetRefusal.TheVariants.{Fault, TooLong}
use Rattle.vh_preset.specs.Contents.{Contents, IsPreset}
use Rattle.vh_preset.specs.Form.{preset_fault}
use Rattle.vh_session.specs.Content.{Content}

-- a text's bytes are read, but not more than the limit
abbrev pub text_step : Place → List ℕ → ℕ → Status → Step (List ℕ)
text_step place name limit long = Reads (Unit {0}) place name (λ bytes text. text ≡ bytes) (λ fault. long) (λ bytes fault. limit < length bytes)

-- the most bytes of a preset
abbrev pub preset_limit : ℕ
preset_limit = 67108864

-- the bytes of a file are this preset, or refused: there are too many, or they have this first fault
pub record IsRead (bytes : List ℕ) (preset : Contents) : Type 0 where
  pub few : length bytes ≤ preset_limit
  pub is : IsPreset bytes preset

abbrev pub IsUnread : List ℕ → PresetRefusal → Type 0
IsUnread bytes kind = ((kind ≡ TooLong) × (preset_limit < length bytes)) ⊎ ((fault : PresetFault) × (kind ≡ Fault fault) × (length bytes ≤ preset_limit) × (preset_fault bytes ≡ Some fault))

-- a preset is read: that of a node, or one that is no node's
abbrev pub preset_step : Option ℕ → List ℕ → Step Contents
preset_step node name = Reads PresetRefusal Preset name IsRead (λ kind. status.PresetRefused node kind) IsUnread

-- of a node the preset in a file, or no preset, where no file is named
abbrev pub place_step : ℕ → Option (List ℕ) → Step (Option Contents)
place_step node None = Judges ⊥ (λ given. given ≡ None) (λ fault. status.Usage) (λ fault. ⊥)
place_step node (Some name) =
    Reads PresetRefusal Preset name (λ bytes given. (preset : Contents) × (given ≡ Some preset) × IsRead bytes preset) (λ kind. status.PresetRefused (Some node) kind) IsUnread

-- the file of a node's preset
abbrev pub file_of : Content → ℕ → Option (List ℕ)
file_of content node = option_map (λ preset. preset.1) (find (λ preset. preset.0 == node) content.presets)

-- and the step of that node
abbrev pub node_step : Content → ℕ → Step (Option Contents)
node_step content node = place_step node (file_of content node)

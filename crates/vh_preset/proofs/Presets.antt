-- The laws of preset files.
use Rattle.std.proofs.Common.{◌≡◌, ℕ, ◌+◌, ◌<◌, ◌≤◌, ◌^◌, ◌%◌, List, length, Option, Some, None, Ok, refl, sym, ap, ◌∙◌, arith}
use Rattle.std.specs.Prelude.{MatchOption}
use Rattle.hex.specs.Hex.{decode_of}
use Rattle.hex.proofs.HexLemmas.{decode_of-digits, decode_of-same}
use Rattle.vh_ids.specs.declared.tuid.Tuid.{Tuid}
use Rattle.vh_preset.specs.declared.fault.PresetFault.{PresetFault}
use Rattle.vh_preset.specs.declared.preset.PresetEntry.{PresetEntry}
use Rattle.vh_preset.specs.Form.{preset_fault, class_digits, version_in, entries_in}
use Rattle.vh_preset.specs.Contents.{Contents, IsPreset}
use Rattle.vh_preset.specs.Text.{preset_text}
use Rattle.vh_preset.specs.Chunks.{parts_of, size_of}
use Rattle.vh_preset.specs.Laws.{PresetOrFault, HasChunks, WrittenIsRead}
use Rattle.vh_preset.proofs.Faults.{whole_digits}
use Rattle.vh_preset.proofs.ReadBack.{made, is_read, finds}
use Rattle.vh_preset.proofs.Ids.{part_found, four_ids}
use Rattle.vh_preset.proofs.Written.{four_most, all_size}

abbrev contents : List ℕ → ℕ → List PresetEntry → List ℕ → Contents
contents class version entries bytes = record { class = record { 0 = class }; version = version; entries = entries; bytes = bytes }

-- a file says one thing only
only : (bytes : List ℕ) (one other : Contents) → IsPreset bytes one → IsPreset bytes other → other ≡ one
only bytes one other is was =
    let class : other.class.0 ≡ one.class.0 = decode_of-same (class_digits bytes) _ _ was.class_is is.class_is in
    let version : other.version ≡ one.version = was.version_is ∙ sym is.version_is in
    let entries : other.entries ≡ one.entries = was.entries_are ∙ sym is.entries_are in
    let same : other.bytes ≡ one.bytes = was.bytes_are ∙ sym is.bytes_are in
    ap (λ x. contents x other.version other.entries other.bytes) class
    ∙ ap (λ x. contents one.class.0 x other.entries other.bytes) version
    ∙ ap (λ x. contents one.class.0 one.version x other.bytes) entries
    ∙ ap (λ x. contents one.class.0 one.version one.entries x) same

pub preset_or_fault : PresetOrFault
preset_or_fault bytes = split (preset_fault bytes) refl
  where
    split : (answer : Option PresetFault) → preset_fault bytes ≡ answer
        → MatchOption answer ((preset : Contents) × IsPreset bytes preset × ((other : Contents) → IsPreset bytes other → other ≡ preset)) (λ fault. (preset : Contents) → ¬ IsPreset bytes preset)
    split None none =
        let whole = whole_digits bytes none in
        let class = decode_of-digits (class_digits bytes) whole.0 whole.1 in
        let preset : Contents = contents class.0 (version_in bytes) (entries_in bytes) bytes in
        let is : IsPreset bytes preset = record { faultless = none; class_is = class.1; version_is = refl; entries_are = refl; bytes_are = refl } in
        (preset, is, λ other was. only bytes preset other is was)
    split (Some fault) some = λ preset is. let e = sym some ∙ is.faultless in (cc e)

pub written_is_read : WrittenIsRead
unfolding preset_text
written_is_read class chunks bytes sixteen most =
    let parts = parts_of chunks in
    let ids = four_ids chunks in
    let small : size_of parts ≤ 2 ^ 30 = omega (arith, all_size chunks) in
    let few : length parts ≤ 128 = let most = four_most chunks in omega (arith, most) in (
      made class parts bytes sixteen ids few small,
      is_read class parts bytes sixteen ids few small,
      record {
        class_is = refl;
        version_is = refl;
        chunks_are = λ id. finds class parts bytes sixteen ids few small id ∙ part_found chunks id;
      },
    )

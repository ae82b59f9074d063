-- Files that were read, and why the preset in one is refused.
use Rattle.std.proofs.Common.{◌≡◌, ◌∙◌, ℕ, ◌≤◌, true, List, ◌++◌, length, take, drop, Option, Some, None, inl, inr, refl, ap, subst, arith}
use Rattle.std.specs.Prelude.{false}
use Rattle.std.proofs.Math.Seq.{take-append_seam}
use Rattle.std.proofs.lemmas.List.{take_all}
use Rattle.vh_files.specs.Store.{told, Lacks, FillsFrom}
use Rattle.vh_preset.specs.declared.fault.PresetFault.{PresetFault}
use Rattle.vh_preset.specs.declared.fault.PresetRefusal.TheVariants.{Fault, TooLong}
use Rattle.vh_preset.specs.Contents.{Contents, IsPreset}
use Rattle.vh_preset.specs.Form.{preset_fault}
use Rattle.vh_answers.specs.declared.status.Place.TheVariants.{Preset}
use Rattle.vh_answers.specs.declared.status.Status.{Status}
use Rattle.vh_answers.specs.declared.status.Status.TheVariants as status
use Rattle.vh_answers.specs.Outside.{Store, ReadAs}
use Rattle.vh_answers.specs.Steps.{Gives, Halts}
use Rattle.vh_reading.specs.Reading.{text_step, preset_limit, preset_step, place_step}

-- a file that isn't lacking was read
pub read_as : (s : Store) (name : List ℕ) (Holds : List ℕ → Type 0) → (Lacks s.complete s.held name → ⊥) → ((bytes : List ℕ) → told s.held name ≡ Some bytes → Holds bytes) → ReadAs s name Holds
read_as s name Holds there holds =
    elim (told s.held name) as (λ o. told s.held name ≡ o → ReadAs s name Holds) [
      | Some bytes ↦ λ is. inl (bytes, is, holds bytes is)
      | None ↦ λ is. elim s.complete as (λ b. s.complete ≡ b → ReadAs s name Holds) [
        | true ↦ λ all. absurd (there (all, is))
        | false ↦ λ some. inr (some, is)
      ] refl
    ] refl

-- what is said of it may be said otherwise
pub read_more : (s : Store) (name : List ℕ) (P Q : List ℕ → Type 0) → ((bytes : List ℕ) → P bytes → Q bytes) → ReadAs s name P → ReadAs s name Q
read_more s name P Q onto (inl there) = inl (there.0, there.1, onto there.0 there.2)
read_more s name P Q onto (inr gone) = inr gone

-- all of a file's bytes fill as many places
pub filled : (bytes buf : List ℕ) (got : ℕ) → FillsFrom bytes 0 got buf → length buf ≡ length bytes → take got buf ≡ bytes
filled bytes buf got fills long =
    let z : drop 0 bytes ≡ bytes = refl in
    let all : got ≡ length bytes = let e = fills.all in omega (arith, e, long) in
    fills.bytes_are ∙ take_all got bytes (omega (arith, all))

-- what was read is the file's bytes, where the buffer had room for all of them
pub whole : (bytes buf rest text : List ℕ) (room got : ℕ) → text ≡ take got (take room (buf ++ rest)) → room ≡ length buf → FillsFrom bytes 0 got buf → length buf ≡ length bytes → text ≡ bytes
whole bytes buf rest text room got is fits fills long = is ∙ ap (take got) (ap (λ n. take n (buf ++ rest)) fits ∙ take-append_seam buf rest) ∙ filled bytes buf got fills long

-- ---- presets
pub text_halts : (old new : Store) (whose : Option ℕ) (name : List ℕ) (answer : Status) → Halts old new (text_step Preset name preset_limit (status.PresetRefused whose TooLong)) answer → Halts old new (preset_step whose name) answer
text_halts old new whose name answer (inl (refuses, inl unread)) = inl (refuses, inl unread)
text_halts old new whose name answer (inl (refuses, inr (fault, is, long))) = inl (refuses, inr (TooLong, is, read_more old name _ _ (λ bytes more. inl (refl, more)) long))
text_halts old new whose name answer (inr none) = inr none

pub fault_halts : (old new : Store) (whose : Option ℕ) (name text : List ℕ) (fault : PresetFault) → ReadAs old name (λ bytes. text ≡ bytes) → length text ≤ preset_limit → preset_fault text ≡ Some fault → Halts old new (preset_step whose name) (status.PresetRefused whose (Fault fault))
fault_halts old new whose name text fault read few faulty =
    inl (tt, inr (Fault fault, refl, read_more old name _ _ (λ bytes same. inr (fault, refl, subst (λ (t : List ℕ). length t ≤ preset_limit) same few, subst (λ (t : List ℕ). preset_fault t ≡ Some fault) same faulty)) read))

pub preset_given : (old : Store) (whose : Option ℕ) (name text : List ℕ) (preset : Contents) → ReadAs old name (λ bytes. text ≡ bytes) → length text ≤ preset_limit → IsPreset text preset → Gives old (preset_step whose name) preset
preset_given old whose name text preset read few is =
    read_more old name _ _ (λ bytes same. record { few = subst (λ (t : List ℕ). length t ≤ preset_limit) same few; is = subst (λ (t : List ℕ). IsPreset t preset) same is }) read

-- ---- those of nodes
pub place_given : (old : Store) (node : ℕ) (file : Option (List ℕ)) (name : List ℕ) (preset : Contents) → Some name ≡ file → Gives old (preset_step (Some node) name) preset → Gives old (place_step node file) (Some preset)
place_given old node file name preset is given =
    subst (λ (o : Option (List ℕ)). Gives old (place_step node o) (Some preset)) is (read_more old name _ _ (λ bytes read. (preset, refl, read)) given)

pub place_empty : (old : Store) (node : ℕ) (file : Option (List ℕ)) → None ≡ file → Gives old (place_step node file) None
place_empty old node file is = subst (λ (o : Option (List ℕ)). Gives old (place_step node o) None) is refl

pub place_halts : (old new : Store) (node : ℕ) (file : Option (List ℕ)) (name : List ℕ) (answer : Status) → Some name ≡ file → Halts old new (preset_step (Some node) name) answer → Halts old new (place_step node file) answer
place_halts old new node file name answer is halts = subst (λ (o : Option (List ℕ)). Halts old new (place_step node o) answer) is halts

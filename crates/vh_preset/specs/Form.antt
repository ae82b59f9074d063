-- The form of a preset file, and its first fault.
use Rattle.std.specs.Prelude.{ℕ, ◌+◌, ◌*◌, ◌≤◌, Bool, not, ◌||◌, ◌==◌, nat_lt, List, [], ◌∷◌, length, map, take, drop, Option, Some, None, option_map, if◌then◌else◌, codes}
use Rattle.std.specs.Option.{option_or}
use Rattle.std.specs.List.{position, range_with_len}
use Rattle.std.specs.Str.{bytes_eq}
use Rattle.hex.specs.Hex.{is_hex_digit}
use Rattle.vh_files.specs.Fields.{field_at}
use Rattle.vh_preset.specs.declared.fault.PresetFault.{PresetFault}
use Rattle.vh_preset.specs.declared.fault.PresetFault.TheVariants.{Short, BadMagic, BadVersion, BadClassId, BadListOffset, BadListId, BadCount, BadRange}
use Rattle.vh_preset.specs.declared.preset.PresetEntry.{PresetEntry}

abbrev pub version_in : List ℕ → ℕ
version_in bytes = field_at bytes 4 4

-- the digits of the class
abbrev pub class_digits : List ℕ → List ℕ
class_digits bytes = take 32 (drop 8 bytes)

-- the place of the chunk list
abbrev pub list_at : List ℕ → ℕ
list_at bytes = field_at bytes 40 8

-- how many entries it has
abbrev pub count_in : List ℕ → ℕ
count_in bytes = field_at bytes (list_at bytes + 4) 4

-- the entry with which these bytes begin
abbrev pub entry_of : List ℕ → PresetEntry
entry_of bytes = record { id = take 4 bytes; at = field_at bytes 4 8; size = field_at bytes 12 8 }

-- the entry of this number, from 0
abbrev pub entry_at : List ℕ → ℕ → PresetEntry
entry_at bytes i = entry_of (drop (list_at bytes + 8 + 20 * i) bytes)

-- the entries, in the file's order
abbrev pub entries_in : List ℕ → List PresetEntry
entries_in bytes = map (entry_at bytes) (range_with_len 0 (count_in bytes))

-- the chunk ends within a file of this size
abbrev pub IsWithin : ℕ → PresetEntry → Type 0
IsWithin size entry = entry.at + entry.size ≤ size

-- the chunk begins in the head, or ends past a file of this size
abbrev pub is_out : ℕ → PresetEntry → Bool
is_out size entry = nat_lt entry.at 48 || nat_lt size (entry.at + entry.size)

-- a fault, where this condition holds
abbrev pub when : Bool → PresetFault → Option PresetFault
when condition fault = if condition then Some fault else None

-- the first fault of some conditions
abbrev pub first_of : List (Option PresetFault) → Option PresetFault
first_of [] = None
first_of (fault ∷ faults) = option_or fault (first_of faults)

-- the conditions on the 48 bytes of the head but for the place of the chunk list
abbrev pub head_faults : List ℕ → List (Option PresetFault)
head_faults bytes =
    when (nat_lt (length bytes) 48) Short
    ∷ when (not (bytes_eq (take 4 bytes) (codes "VST3"))) BadMagic
    ∷ when ((version_in bytes == 0) || nat_lt 2147483647 (version_in bytes)) BadVersion
    ∷ option_map (λ k. BadClassId (8 + k)) (position (λ digit. not (is_hex_digit digit)) (class_digits bytes))
    ∷ []

-- the conditions on the chunk list but for its entries
abbrev pub list_faults : List ℕ → List (Option PresetFault)
list_faults bytes =
    let at = list_at bytes in
    let count = count_in bytes in
    when (nat_lt at 48 || nat_lt (length bytes) (at + 8)) BadListOffset
    ∷ when (not (bytes_eq (take 4 (drop at bytes)) (codes "List"))) BadListId
    ∷ when (nat_lt 128 count || nat_lt (length bytes) (at + 8 + 20 * count)) (BadCount count)
    ∷ []

-- the condition on the entries
abbrev pub range_fault : List ℕ → Option PresetFault
range_fault bytes = option_map BadRange (position (is_out (length bytes)) (entries_in bytes))

-- the first of the eight conditions that holds
unfoldable pub preset_fault : List ℕ → Option PresetFault
preset_fault bytes = option_or (first_of (head_faults bytes)) (option_or (first_of (list_faults bytes)) (range_fault bytes))

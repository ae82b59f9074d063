-- The first fault by parts, and what stands where there is none.
use Rattle.std.proofs.Common.{◌≡◌, ℕ, ◌+◌, ◌-◌, ◌*◌, ◌%◌, ◌<◌, ◌≤◌, ◌||◌, Bool, true, false, not, List, [], ◌∷◌, ◌++◌, length, get_or, take, drop, map, Option, Some, None, refl, sym, ap, subst, ◌∙◌, arith}
use Rattle.std.specs.Prelude.{All, codes, nat_lt, option_map, ◌==◌}
use Rattle.std.specs.Option.{option_or}
use Rattle.std.specs.Str.{bytes_eq}
use Rattle.std.specs.List.{AllPass, position, range_with_len}
use Rattle.std.proofs.lemmas.List.FromFn.{map-range_with_len_more, length-map-range_with_len, get_or-map-range_with_len}
use Rattle.std.proofs.lemmas.List.{length-take, length-drop, take_rest}
use Rattle.hex.specs.Hex.{is_hex_digit}
use Rattle.vh_preset.specs.declared.fault.PresetFault.{PresetFault}
use Rattle.vh_preset.specs.declared.fault.PresetFault.TheVariants.{Short, BadMagic, BadVersion, BadClassId, BadRange}
use Rattle.vh_preset.specs.declared.preset.PresetEntry.{PresetEntry}
use Rattle.vh_preset.specs.Form.{when, first_of, head_faults, list_faults, range_fault, preset_fault, class_digits, version_in, list_at, entry_of, entry_at, count_in, is_out, IsWithin}
use Rattle.vh_preset.proofs.First.{no_lt, none_passes, range_some, range_none}

module _ (bytes : List ℕ) where
  pub fault_none : first_of (head_faults bytes) ≡ None → first_of (list_faults bytes) ≡ None → range_fault bytes ≡ None → preset_fault bytes ≡ None
  unfolding preset_fault
  fault_none head list range =
      ap (λ o. option_or o (option_or (first_of (list_faults bytes)) (range_fault bytes))) head ∙ ap (λ o. option_or o (range_fault bytes)) list ∙ range

  pub fault_of_head : (fault : PresetFault) → first_of (head_faults bytes) ≡ Some fault → preset_fault bytes ≡ Some fault
  unfolding preset_fault
  fault_of_head fault head = ap (λ o. option_or o (option_or (first_of (list_faults bytes)) (range_fault bytes))) head

  pub fault_of_list : (fault : PresetFault) → first_of (head_faults bytes) ≡ None → first_of (list_faults bytes) ≡ Some fault → preset_fault bytes ≡ Some fault
  unfolding preset_fault
  fault_of_list fault head list =
      ap (λ o. option_or o (option_or (first_of (list_faults bytes)) (range_fault bytes))) head ∙ ap (λ o. option_or o (range_fault bytes)) list

  pub fault_of_range : (fault : PresetFault) → first_of (head_faults bytes) ≡ None → first_of (list_faults bytes) ≡ None → range_fault bytes ≡ Some fault → preset_fault bytes ≡ Some fault
  unfolding preset_fault
  fault_of_range fault head list range =
      ap (λ o. option_or o (option_or (first_of (list_faults bytes)) (range_fault bytes))) head ∙ ap (λ o. option_or o (range_fault bytes)) list ∙ range

  pub range_at : (i : ℕ) → i < count_in bytes → ((k : ℕ) → k < i → is_out (length bytes) (entry_at bytes k) ≡ false) → is_out (length bytes) (entry_at bytes i) ≡ true → range_fault bytes ≡ Some (BadRange i)
  range_at i within before here = ap (option_map BadRange) (range_some (is_out (length bytes)) (entry_at bytes) (count_in bytes) i within before here)

  pub range_nowhere : ((k : ℕ) → k < count_in bytes → is_out (length bytes) (entry_at bytes k) ≡ false) → range_fault bytes ≡ None
  range_nowhere none = ap (option_map BadRange) (range_none (is_out (length bytes)) (entry_at bytes) (count_in bytes) none)

-- of two, none is a fault
pub neither : (one other : Option PresetFault) → option_or one other ≡ None → (one ≡ None) × (other ≡ None)
neither None other h = (refl, h)
neither (Some fault) other h = cc h

not_mapped : {A : Type 0} (f : A → PresetFault) (o : Option A) → option_map f o ≡ None → o ≡ None
not_mapped f None h = refl
not_mapped f (Some a) h = cc h

not_when : (b : Bool) (fault : PresetFault) → when b fault ≡ None → b ≡ false
not_when false fault h = refl
not_when true fault h = cc h

second : (a b : Bool) → (a || b) ≡ false → b ≡ false
second false b h = h
second true b h = cc h

not_true : (b : Bool) → not b ≡ false → b ≡ true
not_true true h = refl
not_true false h = cc h

-- where the head has no fault, the class's digits are digits
pub head_digits : (bytes : List ℕ) → first_of (head_faults bytes) ≡ None → AllPass is_hex_digit (class_digits bytes)
head_digits bytes none =
    let short = when (nat_lt (length bytes) 48) Short in
    let magic = when (not (bytes_eq (take 4 bytes) (codes "VST3"))) BadMagic in
    let version = when ((version_in bytes == 0) || nat_lt 2147483647 (version_in bytes)) BadVersion in
    let other = position (λ digit. not (is_hex_digit digit)) (class_digits bytes) in
    let class = option_map (λ k. BadClassId (8 + k)) other in
    let behind_version = (neither version (option_or class None) (neither magic (option_or version (option_or class None)) (neither short (option_or magic (option_or version (option_or class None))) none).1).1).1 in
    let nowhere = not_mapped (λ k. BadClassId (8 + k)) other (neither class None behind_version).0 in
    λ k x within. not_true (is_hex_digit (get_or (class_digits bytes) k x)) (none_passes (λ digit. not (is_hex_digit digit)) (class_digits bytes) nowhere k x within)

long_enough : (bytes : List ℕ) → first_of (head_faults bytes) ≡ None → 48 ≤ length bytes
long_enough bytes none =
    let short = when (nat_lt (length bytes) 48) Short in
    let magic = when (not (bytes_eq (take 4 bytes) (codes "VST3"))) BadMagic in
    let version = when ((version_in bytes == 0) || nat_lt 2147483647 (version_in bytes)) BadVersion in
    let class = option_map (λ k. BadClassId (8 + k)) (position (λ digit. not (is_hex_digit digit)) (class_digits bytes)) in
    no_lt (length bytes) 48 (not_when (nat_lt (length bytes) 48) Short (neither short (option_or magic (option_or version (option_or class None))) none).0)

-- a file without a fault has 32 digits of a class
pub whole_digits : (bytes : List ℕ) → preset_fault bytes ≡ None → (length (class_digits bytes) % 2 ≡ 0) × AllPass is_hex_digit (class_digits bytes)
unfolding preset_fault
whole_digits bytes none =
    let head = (neither (first_of (head_faults bytes)) (option_or (first_of (list_faults bytes)) (range_fault bytes)) none).0 in
    let long = long_enough bytes head in
    let size : length (class_digits bytes) ≡ 32 = length-take 32 (drop 8 bytes) ∙ omega (arith, length-drop 8 bytes) in
    (omega (arith, size), head_digits bytes head)

-- one more entry
pub entries_next : (bytes : List ℕ) (i : ℕ) (entries : List PresetEntry) (entry : PresetEntry) → entries ≡ map (entry_at bytes) (range_with_len 0 i) → entry ≡ entry_at bytes i
    → entries ++ entry ∷ [] ≡ map (entry_at bytes) (range_with_len 0 (i + 1))
entries_next bytes i entries entry so_far is =
    ap (λ xs. xs ++ entry ∷ []) so_far ∙ ap (λ x. map (entry_at bytes) (range_with_len 0 i) ++ x ∷ []) is ∙ sym (map-range_with_len_more (entry_at bytes) 0 i i (omega arith))

not_out : (size : ℕ) (entry : PresetEntry) → is_out size entry ≡ false → IsWithin size entry
not_out size entry h = no_lt size (entry.at + entry.size) (second (nat_lt entry.at 48) (nat_lt size (entry.at + entry.size)) h)

pub all_within : (bytes : List ℕ) (n : ℕ) (entries : List PresetEntry) → entries ≡ map (entry_at bytes) (range_with_len 0 n) → ((k : ℕ) → k < n → is_out (length bytes) (entry_at bytes k) ≡ false) → All (IsWithin (length bytes)) entries
all_within bytes n entries are none = λ k d within.
    let long : length entries ≡ n = ap length are ∙ length-map-range_with_len (entry_at bytes) 0 n in
    let small : k < n = omega (arith, long) in
    let is : get_or entries k d ≡ entry_at bytes k = ap (λ xs. get_or xs k d) are ∙ get_or-map-range_with_len (entry_at bytes) 0 n k k d small (omega arith) in
    let P : PresetEntry → Type 0 = IsWithin (length bytes) in
    subst P (sym is) (not_out (length bytes) (entry_at bytes k) (none k small))

-- an entry's place
pub entry_where : (bytes : List ℕ) (list i : ℕ) → list ≡ list_at bytes → entry_of (take (length bytes - (list + 8 + 20 * i)) (drop (list + 8 + 20 * i) bytes)) ≡ entry_at bytes i
entry_where bytes list i is = ap entry_of (take_rest bytes (list + 8 + 20 * i)) ∙ ap (λ n. entry_of (drop (n + 8 + 20 * i) bytes)) is

-- A written preset is read back.
use Rattle.std.proofs.Common.{◌≡◌, ℕ, zero, suc, ◌+◌, ◌*◌, ◌^◌, ◌<◌, ◌≤◌, ◌||◌, Bool, true, false, not, cond, ltb, List, [], ◌∷◌, ◌++◌, length, take, drop, get_or, map, Option, Some, None, Ok, refl, sym, ap, ◌∙◌, arith}
use Rattle.std.specs.Prelude.{All, codes, option_map}
use Rattle.std.specs.Option.{option_or}
use Rattle.std.specs.List.{AllPass, flat_map, find, position, range_with_len}
use Rattle.std.specs.Str.{bytes_eq}
use Rattle.std.proofs.lemmas.List.{append_assoc, length-append, take_at, drop_at, drop-drop}
use Rattle.std.proofs.lemmas.List.Concat.{length-flat_map}
use Rattle.std.proofs.lemmas.List.Elements.{All-head, All-tail}
use Rattle.std.proofs.lemmas.List.FromFn.{fill_by_all}
use Rattle.std.proofs.lemmas.List.Sums.{sum_by-cons}
use Rattle.byteorder.specs.Endian.{little_bytes}
use Rattle.hex.specs.Hex.{IsBytes, decode_of, encode_upper, is_hex_digit, upper_digits}
use Rattle.hex.proofs.HexLemmas.{length-encode_with, decode_of-encode_upper, decode_of-ok}
use Rattle.vh_files.specs.Fields.{number_of, field_at}
use Rattle.vh_ids.specs.declared.tuid.Tuid.{Tuid}
use Rattle.vh_preset.specs.declared.preset.PresetEntry.{PresetEntry}
use Rattle.vh_preset.specs.declared.fault.PresetFault.{PresetFault}
use Rattle.vh_preset.specs.declared.fault.PresetFault.TheVariants.{Short, BadMagic, BadVersion, BadClassId, BadListOffset, BadListId, BadCount}
use Rattle.vh_preset.specs.Form.{when, first_of, head_faults, list_faults, preset_fault, class_digits, list_at, count_in, entry_of, entry_at, entries_in, is_out}
use Rattle.vh_preset.specs.Contents.{Contents, IsPreset, chunk_at, chunk_in}
use Rattle.vh_preset.specs.Chunks.{Part, size_of}
use Rattle.vh_preset.specs.Text.{head_text, entry_text, entries_text, list_text, file_text}
use Rattle.vh_preset.proofs.First.{lt_no, position_none}
use Rattle.vh_preset.proofs.Faults.{fault_none, range_nowhere}

-- a number in bytes, and back
number32 : (x : ℕ) → x < 2 ^ 32 → number_of (little_bytes 4 x) ≡ x
number32 x h = omega arith

number64 : (x : ℕ) → x < 2 ^ 64 → number_of (little_bytes 8 x) ≡ x
number64 x h = omega arith

-- the entries of chunks that stand one after the other from this place on
abbrev pub placed : ℕ → List Part → List PresetEntry
placed at [] = []
placed at (p ∷ ps) = record { id = p.id; at = at; size = length p.bytes } ∷ placed (at + length p.bytes) ps

length_placed : (at : ℕ) (parts : List Part) → length (placed at parts) ≡ length parts
length_placed at [] = refl
length_placed at (p ∷ ps) = ap suc (length_placed (at + length p.bytes) ps)

-- chunks with ids of four bytes
abbrev pub HaveIds : List Part → Type 0
HaveIds parts = All (λ part. length part.id ≡ 4) parts

first_id : (p : Part) (ps : List Part) → HaveIds (p ∷ ps) → length p.id ≡ 4
first_id p ps ids = All-head (λ (q : Part). length q.id ≡ 4) p ps ids

other_ids : (p : Part) (ps : List Part) → HaveIds (p ∷ ps) → HaveIds ps
other_ids p ps ids = All-tail (λ (q : Part). length q.id ≡ 4) p ps ids

length_entry : (at : ℕ) (p : Part) → length p.id ≡ 4 → length (entry_text at p) ≡ 20
length_entry at p four =
    let a : List ℕ = little_bytes 8 at in
    let b : List ℕ = little_bytes 8 (length p.bytes) in
    length-append (p.id ++ a) b ∙ ap (λ n. n + length b) (length-append p.id a) ∙ omega (arith, four)

length_entries : (at : ℕ) (parts : List Part) → HaveIds parts → length (entries_text at parts) ≡ 20 * length parts
length_entries at [] ids = refl
length_entries at (p ∷ ps) ids =
    let here = length_entry at p (first_id p ps ids) in
    let rest = length_entries (at + length p.bytes) ps (other_ids p ps ids) in
    length-append (entry_text at p) (entries_text (at + length p.bytes) ps) ∙ omega (arith, here, rest)

abbrev entry : List ℕ → ℕ → ℕ → PresetEntry
entry id at size = record { id = id; at = at; size = size }

-- the entry with which an entry's bytes begin
entry_parts : (id : List ℕ) (at size : ℕ) (rest : List ℕ) → length id ≡ 4 → at < 2 ^ 64 → size < 2 ^ 64
    → entry_of (id ++ (little_bytes 8 at ++ (little_bytes 8 size ++ rest))) ≡ entry id at size
entry_parts id at size rest four low short =
    let a : List ℕ = little_bytes 8 at in
    let b : List ℕ = little_bytes 8 size in
    let bytes : List ℕ = id ++ (a ++ (b ++ rest)) in
    let behind : drop 4 bytes ≡ a ++ (b ++ rest) = drop_at id (a ++ (b ++ rest)) 4 four in
    let last : drop 12 bytes ≡ b ++ rest = sym (drop-drop 8 4 bytes) ∙ ap (drop 8) behind in
    ap (λ x. entry x (field_at bytes 4 8) (field_at bytes 12 8)) (take_at id (a ++ (b ++ rest)) 4 four)
    ∙ ap (λ x. entry id x (field_at bytes 12 8)) (ap (λ xs. number_of (take 8 xs)) behind ∙ number64 at low)
    ∙ ap (λ x. entry id at x) (ap (λ xs. number_of (take 8 xs)) last ∙ number64 size short)

entry_read : (at : ℕ) (p : Part) (rest : List ℕ) → length p.id ≡ 4 → at < 2 ^ 64 → length p.bytes < 2 ^ 64
    → entry_of (entry_text at p ++ rest) ≡ entry p.id at (length p.bytes)
entry_read at p rest four low short =
    let a : List ℕ = little_bytes 8 at in
    let b : List ℕ = little_bytes 8 (length p.bytes) in
    let whole : entry_text at p ++ rest ≡ p.id ++ (a ++ (b ++ rest)) = append_assoc (p.id ++ a) b rest ∙ append_assoc p.id a (b ++ rest) in
    ap entry_of whole ∙ entry_parts p.id at (length p.bytes) rest four low short

-- each entry is read where it stands
entry_there : (parts : List Part) (at k : ℕ) (d : PresetEntry) → HaveIds parts → at + size_of parts < 2 ^ 64 → k < length parts
    → get_or (placed at parts) k d ≡ entry_of (drop (20 * k) (entries_text at parts))
entry_there [] at k d ids low within = absurd (omega arith)
entry_there (p ∷ ps) at zero d ids low within =
    let size = sum_by-cons (λ (q : Part). length q.bytes) p ps in
    sym (entry_read at p (entries_text (at + length p.bytes) ps) (first_id p ps ids) (omega arith) (omega (arith, size)))
entry_there (p ∷ ps) at (suc k) d ids low within =
    let size = sum_by-cons (λ (q : Part). length q.bytes) p ps in
    let rest : List ℕ = entries_text (at + length p.bytes) ps in
    let far : 20 * suc k ≡ 20 + 20 * k = omega arith in
    let shifted : drop (20 * suc k) (entry_text at p ++ rest) ≡ drop (20 * k) rest =
    ap (λ n. drop n (entry_text at p ++ rest)) far ∙ sym (drop-drop (20 * k) 20 (entry_text at p ++ rest)) ∙ ap (drop (20 * k)) (drop_at (entry_text at p) rest 20 (length_entry at p (first_id p ps ids))) in
    entry_there ps (at + length p.bytes) k d (other_ids p ps ids) (omega (arith, size)) (omega arith) ∙ ap entry_of (sym shifted)

-- a chunk's place and end
placed_low : (parts : List Part) (at k : ℕ) (d : PresetEntry) → k < length parts → at ≤ (get_or (placed at parts) k d).at
placed_low [] at k d within = absurd (omega arith)
placed_low (p ∷ ps) at zero d within = omega arith
placed_low (p ∷ ps) at (suc k) d within = let rest = placed_low ps (at + length p.bytes) k d (omega arith) in omega (arith, rest)

placed_high : (parts : List Part) (at k : ℕ) (d : PresetEntry) → k < length parts → (get_or (placed at parts) k d).at + (get_or (placed at parts) k d).size ≤ at + size_of parts
placed_high [] at k d within = absurd (omega arith)
placed_high (p ∷ ps) at zero d within = let size = sum_by-cons (λ (q : Part). length q.bytes) p ps in omega (arith, size)
placed_high (p ∷ ps) at (suc k) d within =
    let size = sum_by-cons (λ (q : Part). length q.bytes) p ps in
    let rest = placed_high ps (at + length p.bytes) k d (omega arith) in
    omega (arith, size, rest)

-- the chunk of an id is found where it stands
chunk_there : (id : List ℕ) (parts : List Part) (at : ℕ) (front back : List ℕ) → length front ≡ at
    → option_map (chunk_at (front ++ (flat_map (λ part. part.bytes) parts ++ back))) (find (λ e. bytes_eq e.id id) (placed at parts)) ≡ option_map (λ part. part.bytes) (find (λ part. bytes_eq part.id id) parts)
chunk_there id [] at front back long = refl
chunk_there id (p ∷ ps) at front back long =
    let rest : List ℕ = flat_map (λ (part : Part). part.bytes) ps in
    let behind : ℕ = at + length p.bytes in
    let file : List ℕ = front ++ ((p.bytes ++ rest) ++ back) in
    let inner : (p.bytes ++ rest) ++ back ≡ p.bytes ++ (rest ++ back) = append_assoc p.bytes rest back in
    let here : take (length p.bytes) (drop at file) ≡ p.bytes =
    ap (take (length p.bytes)) (drop_at front ((p.bytes ++ rest) ++ back) at long ∙ inner) ∙ take_at p.bytes (rest ++ back) (length p.bytes) refl in
    let same : file ≡ (front ++ p.bytes) ++ (rest ++ back) = ap (λ x. front ++ x) inner ∙ sym (append_assoc front p.bytes (rest ++ back)) in
    let longer : length (front ++ p.bytes) ≡ behind = length-append front p.bytes ∙ ap (λ n. n + length p.bytes) long in
    let later = ap (λ f. option_map (chunk_at f) (find (λ (e : PresetEntry). bytes_eq e.id id) (placed behind ps))) same ∙ chunk_there id ps behind (front ++ p.bytes) back longer in
    elim (bytes_eq p.id id) as (λ t. option_map (chunk_at file) (cond t (Some (entry p.id at (length p.bytes))) (find (λ (e : PresetEntry). bytes_eq e.id id) (placed behind ps))) ≡ option_map (λ (part : Part). part.bytes) (cond t (Some p) (find (λ (part : Part). bytes_eq part.id id) ps))) [
      | true ↦ ap Some here
      | false ↦ later
    ]

not_digit : (b : Bool) → b ≡ true → not b ≡ false
not_digit b e = ap not e

either : (a b : Bool) → a ≡ false → b ≡ false → (a || b) ≡ false
either a b p q = ap (λ x. x || b) p ∙ q

-- no fault where three conditions don't hold
three : (f g h : PresetFault) (a b c : Bool) → a ≡ false → b ≡ false → c ≡ false → first_of (when a f ∷ when b g ∷ when c h ∷ []) ≡ None
three f g h a b c p q r = ap (λ x. first_of (when x f ∷ when b g ∷ when c h ∷ [])) p ∙ ap (λ x. first_of (when x g ∷ when c h ∷ [])) q ∙ ap (λ x. first_of (when x h ∷ [])) r

-- the file of these chunks
module _ (class : Tuid) (parts : List Part) (bytes : IsBytes class.0) (sixteen : length class.0 ≡ 16) (ids : HaveIds parts) (few : length parts ≤ 128) (small : size_of parts ≤ 2 ^ 30) where
  abbrev list : ℕ
  list = 48 + size_of parts

  abbrev digits : List ℕ
  digits = encode_upper class.0

  abbrev body : List ℕ
  body = flat_map (λ (part : Part). part.bytes) parts

  abbrev file : List ℕ
  file = file_text class parts

  long_digits : length digits ≡ 32
  long_digits = length-encode_with upper_digits class.0 ∙ omega (arith, sixteen)

  long_head : length (head_text class list) ≡ 48
  long_head =
      let more = length-append digits (little_bytes 8 list) in
      omega (arith, more, long_digits)

  long_front : length (head_text class list ++ body) ≡ list
  long_front = length-append (head_text class list) body ∙ omega (arith, long_head, length-flat_map (λ (part : Part). part.bytes) parts)

  long_list : length (list_text parts) ≡ 8 + 20 * length parts
  long_list = let rest = length_entries 48 parts ids in omega (arith, rest)

  long_file : length file ≡ list + 8 + 20 * length parts
  long_file =
      length-append (head_text class list) (body ++ list_text parts) ∙ omega (arith, long_head, length-append body (list_text parts), length-flat_map (λ (part : Part). part.bytes) parts, long_list)

  digits_there : class_digits file ≡ digits
  digits_there =
      ap (take 32) (append_assoc digits (little_bytes 8 list) (body ++ list_text parts)) ∙ take_at digits (little_bytes 8 list ++ (body ++ list_text parts)) 32 long_digits

  list_there : list_at file ≡ list
  list_there =
      let rest : List ℕ = little_bytes 8 list ++ (body ++ list_text parts) in
      let from : drop 32 ((digits ++ little_bytes 8 list) ++ (body ++ list_text parts)) ≡ rest = ap (drop 32) (append_assoc digits (little_bytes 8 list) (body ++ list_text parts)) ∙ drop_at digits rest 32 long_digits in
      ap (λ xs. number_of (take 8 xs)) from ∙ number64 list (omega arith)

  at_list : drop list file ≡ list_text parts
  at_list = ap (drop list) (sym (append_assoc (head_text class list) body (list_text parts))) ∙ drop_at (head_text class list ++ body) (list_text parts) list long_front

  beyond : (at k : ℕ) → at ≡ list_at file + k → drop at file ≡ drop k (list_text parts)
  beyond at k e =
      let there : at ≡ list + k = e ∙ ap (λ n. n + k) list_there in
      ap (λ n. drop n file) there ∙ sym (drop-drop k list file) ∙ ap (drop k) at_list

  count_there : count_in file ≡ length parts
  count_there = ap (λ xs. number_of (take 4 xs)) (beyond (list_at file + 4) 4 refl) ∙ number32 (length parts) (omega arith)

  entry_here : (k : ℕ) (d : PresetEntry) → k < length parts → get_or (placed 48 parts) k d ≡ entry_at file k
  entry_here k d within =
      let there = beyond (list_at file + 8 + 20 * k) (8 + 20 * k) (omega arith) ∙ sym (drop-drop (20 * k) 8 (list_text parts)) in
      entry_there parts 48 k d ids (omega arith) within ∙ ap entry_of (sym there)

  entries_there : placed 48 parts ≡ entries_in file
  entries_there =
      fill_by_all (entry_at file) (placed 48 parts) (length parts) (entry_at file 0) (length_placed 48 parts) (λ k h. entry_here k (entry_at file 0) h)
      ∙ ap (λ n. map (entry_at file) (range_with_len 0 n)) (sym count_there)

  all_digits : (k : ℕ) → k < length (class_digits file) → not (is_hex_digit (get_or (class_digits file) k 0)) ≡ false
  all_digits k within =
      let pass = (decode_of-ok digits class.0 (decode_of-encode_upper class.0 bytes)).1 in
      let is = ap (λ xs. is_hex_digit (get_or xs k 0)) digits_there in
      let shorter : k < length digits = omega (arith, ap length digits_there) in
      not_digit _ (is ∙ pass k 0 shorter)

  good_head : first_of (head_faults file) ≡ None
  good_head =
      let some = position_none (λ digit. not (is_hex_digit digit)) (class_digits file) 0 all_digits in
      ap (λ b. option_or (when b Short) (option_or (option_map (λ k. BadClassId (8 + k)) (position (λ digit. not (is_hex_digit digit)) (class_digits file))) None)) (lt_no (length file) 48 (omega (arith, long_file)))
      ∙ ap (λ o. option_or (option_map (λ k. BadClassId (8 + k)) o) None) some

  good_list : first_of (list_faults file) ≡ None
  good_list =
      let id = ap (λ xs. not (bytes_eq (take 4 xs) (codes "List"))) (beyond (list_at file) 0 (omega arith)) in
      let low : ltb (list_at file) 48 ≡ false = lt_no (list_at file) 48 (omega (arith, list_there)) in
      let high : ltb (length file) (list_at file + 8) ≡ false = lt_no (length file) (list_at file + 8) (omega (arith, list_there, long_file)) in
      let most : ltb 128 (count_in file) ≡ false = lt_no 128 (count_in file) (omega (arith, count_there)) in
      let end : ltb (length file) (list_at file + 8 + 20 * count_in file) ≡ false = lt_no (length file) (list_at file + 8 + 20 * count_in file) (omega (arith, list_there, count_there, long_file)) in
      three BadListOffset BadListId (BadCount (count_in file)) _ _ _ (either _ _ low high) id (either _ _ most end)

  good_ranges : (k : ℕ) → k < count_in file → is_out (length file) (entry_at file k) ≡ false
  good_ranges k h =
      let within : k < length parts = omega (arith, count_there) in
      let d : PresetEntry = entry_at file 0 in
      let is = entry_here k d within in
      let low = placed_low parts 48 k d within in
      let high = placed_high parts 48 k d within in
      ap (is_out (length file)) (sym is) ∙ either _ _ (lt_no (get_or (placed 48 parts) k d).at 48 low) (lt_no (length file) ((get_or (placed 48 parts) k d).at + (get_or (placed 48 parts) k d).size) (omega (arith, high, long_file)))

  abbrev pub made : Contents
  made = record { class = class; version = 1; entries = placed 48 parts; bytes = file }

  pub is_read : IsPreset file made
  is_read = record {
    faultless = fault_none file good_head good_list (range_nowhere file good_ranges);
    class_is = ap decode_of digits_there ∙ decode_of-encode_upper class.0 bytes;
    version_is = refl;
    entries_are = entries_there;
    bytes_are = refl;
  }

  pub finds : (id : List ℕ) → chunk_in made id ≡ option_map (λ part. part.bytes) (find (λ part. bytes_eq part.id id) parts)
  finds id = chunk_there id parts 48 (head_text class list) (list_text parts) long_head

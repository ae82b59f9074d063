use Rattle.std.proofs.Common.{◌≡◌, ◌≢◌, ℕ, List, [], ◌∷◌, ◌++◌, Option, Some, None, true, false, not, cond, Result, Ok, Err, refl, sym, ap, subst, ◌∙◌, ◌⊎◌, inl, inr, ⊎_elim}
use Rattle.std.proofs.lemmas.Bool.{cases_eq, false≢true, false_from_ne_true}
use Rattle.std.specs.Option.{option_map, option_map_or, is_some}
use Rattle.std.specs.Result.{OnOk, is_err}
use Rattle.std.specs.Ordering.{nat_cmp, eq_by_cmp}
use Rattle.std.specs.Cmp.Lexicographic.{nat_list_cmp_total}
use Rattle.std.specs.Cmp.Lexicographic.{slice_cmp}
use Rattle.std.specs.FinMap.{find, get-from_entries}
use Rattle.std.specs.Str.{bytes_eq}
use Rattle.std.specs.String.{string_bytes}
use Rattle.std.proofs.lemmas.Map.Text.{is_eq-slice_cmp}
use Rattle.std.proofs.lemmas.Slice.Eq.{bytes_eq-Decides}
use Rattle.slab.specs.Slab.{Slab, get, ContainsKey, Updates}
use Rattle.vh_files.specs.Store.{told, SameElsewhere, Grows}
use Rattle.std.specs.List.{filter}
use Rattle.vh_files.specs.Shelf.{Bytes, key_in, bytes_at, entries_in, held_in, has_other_name, IsShelf}
use Rattle.vh_files.specs.declared.shelf.Named.{Named}

find-entries : (slab : Slab Bytes) (names : List Named) (name : List ℕ) → find (slice_cmp nat_cmp) name (entries_in slab names) ≡ option_map (bytes_at slab) (key_in names name)
find-entries slab [] name = refl
find-entries slab (n ∷ ns) name =
    let same = is_eq-slice_cmp name (string_bytes n.name) in
    let rest = find-entries slab ns name in
    elim (bytes_eq name (string_bytes n.name)) as (λ b. eq_by_cmp (slice_cmp nat_cmp) name (string_bytes n.name) ≡ b → cond (eq_by_cmp (slice_cmp nat_cmp) name (string_bytes n.name)) (Some (bytes_at slab n.key)) (find (slice_cmp nat_cmp) name (entries_in slab ns)) ≡ option_map (bytes_at slab) (cond b (Some n.key) (key_in ns name))) [
      | true ↦ λ e. rw e refl
      | false ↦ λ e. rw e rest
    ] same

-- a name's bytes are those under its key
pub told-held : (slab : Slab Bytes) (names : List Named) (name : List ℕ) → told (held_in slab names) name ≡ option_map (bytes_at slab) (key_in names name)
told-held slab names name = get-from_entries nat_list_cmp_total (entries_in slab names) name ∙ find-entries slab names name

-- the first of two that is there
or_else : Option ℕ → Option ℕ → Option ℕ
or_else None second = second
or_else (Some key) second = Some key

key_in-append : (names : List Named) (n : Named) (name : List ℕ) → key_in (names ++ n ∷ []) name ≡ or_else (key_in names name) (cond (bytes_eq name (string_bytes n.name)) (Some n.key) None)
unfolding or_else
key_in-append [] n name = refl
key_in-append (m ∷ ms) n name =
    elim (bytes_eq name (string_bytes m.name)) as (λ b. cond b (Some m.key) (key_in (ms ++ n ∷ []) name) ≡ or_else (cond b (Some m.key) (key_in ms name)) (cond (bytes_eq name (string_bytes n.name)) (Some n.key) None)) [
      | true ↦ refl
      | false ↦ key_in-append ms n name
    ]

or_none : (o : Option ℕ) → or_else o None ≡ o
unfolding or_else
or_none None = refl
or_none (Some key) = refl

-- what is found behind a name more was found before, or is that name
key_in_cases : (names : List Named) (n : Named) (name : List ℕ) (key : ℕ) → key_in (names ++ n ∷ []) name ≡ Some key → (key_in names name ≡ Some key) ⊎ ((name ≡ string_bytes n.name) × (key ≡ n.key))
unfolding or_else
key_in_cases names n name key e =
    let here = sym (key_in-append names n name) ∙ e in
    elim (key_in names name) as (λ o. or_else o (cond (bytes_eq name (string_bytes n.name)) (Some n.key) None) ≡ Some key → (o ≡ Some key) ⊎ ((name ≡ string_bytes n.name) × (key ≡ n.key))) [
      | Some found ↦ λ h. inl h
      | None ↦ elim (bytes_eq name (string_bytes n.name)) as (λ b. (b ≡ true → name ≡ string_bytes n.name) → cond b (Some n.key) None ≡ Some key → (None ≡ Some key) ⊎ ((name ≡ string_bytes n.name) × (key ≡ n.key))) [
        | true ↦ λ same h. inr (same refl, cc)
        | false ↦ λ same h. inl h
      ] (bytes_eq-Decides name (string_bytes n.name)).0
    ] here

ContainsKey-along : (old new : Slab Bytes) (key : ℕ) → get new key ≡ get old key → ContainsKey old key → ContainsKey new key
ContainsKey-along old new key e h = ap is_some e ∙ h

bytes_at-along : (old new : Slab Bytes) (key : ℕ) → get new key ≡ get old key → bytes_at new key ≡ bytes_at old key
bytes_at-along old new key e = ap (λ slot. option_map_or (λ (v : Bytes). v.items) slot []) e

-- a key that has a value isn't one that has none
not_vacant : (slab : Slab Bytes) (key vacant : ℕ) → ContainsKey slab key → get slab vacant ≡ None → key ≢ vacant
not_vacant slab key vacant h none e =
    let some : is_some (get slab vacant) ≡ true = let P : ℕ → Type 0 = λ k. is_some (get slab k) ≡ true in subst P e h in
    absurd (false≢true (sym (ap is_some none) ∙ some))

-- the names that keep their key have what they had
module _ (old new : Slab Bytes) (before after : List Named) (name : List ℕ) where
  same_told : key_in after name ≡ key_in before name → ((key : ℕ) → key_in before name ≡ Some key → get new key ≡ get old key) → told (held_in new after) name ≡ told (held_in old before) name
  same_told keys values =
      told-held new after name ∙ ap (option_map (bytes_at new)) keys
      ∙ elim (key_in before name) as (λ o. ((key : ℕ) → o ≡ Some key → get new key ≡ get old key) → option_map (bytes_at new) o ≡ option_map (bytes_at old) o) [
        | None ↦ λ v. refl
        | Some key ↦ λ v. ap Some (bytes_at-along old new key (v key refl))
      ] values
      ∙ sym (told-held old before name)

-- the shelf after the bytes under a name's key changed
module _ (old new : Slab Bytes) (names : List Named) (name : List ℕ) (key : ℕ) (shelf : IsShelf old names) (at : key_in names name ≡ Some key) (kept : ContainsKey new key) (others : (other : ℕ) → other ≢ key → get new other ≡ get old other) where
  pub IsShelf-changed : IsShelf new names
  IsShelf-changed = record {
    found = λ one k h. ⊎_elim
        (λ same. let P : ℕ → Type 0 = λ j. ContainsKey new j in subst P (sym same) kept)
        (λ other. ContainsKey-along old new k (others k other) (shelf.found one k h))
        (cases_eq k key);
    apart = shelf.apart;
  }

  pub told-changed : told (held_in new names) name ≡ Some (bytes_at new key)
  told-changed = told-held new names name ∙ ap (option_map (bytes_at new)) at

  pub told-elsewhere : SameElsewhere name (held_in old names) (held_in new names)
  told-elsewhere = λ other apart. same_told old new names names other refl
      (λ k h. others k (λ same. apart (shelf.apart other name key (h ∙ ap Some same) at)))

-- the shelf after a name and a key more
module _ (old new : Slab Bytes) (names : List Named) (n : Named) (shelf : IsShelf old names) (absent : key_in names (string_bytes n.name) ≡ None) (vacant : get old n.key ≡ None) (bytes : Bytes) (updates : Updates old new n.key (Some bytes)) where
  contains_new : ContainsKey new n.key
  contains_new = ap is_some updates.changed

  pub IsShelf-added : IsShelf new (names ++ n ∷ [])
  IsShelf-added = record {
    found = λ one k h. ⊎_elim
        (λ before. ContainsKey-along old new k (updates.others k (not_vacant old k n.key (shelf.found one k before) vacant)) (shelf.found one k before))
        (λ here. let P : ℕ → Type 0 = λ j. ContainsKey new j in subst P (sym here.1) contains_new)
        (key_in_cases names n one k h);
    apart = λ one other k h i. ⊎_elim
        (λ before. ⊎_elim
        (λ too. shelf.apart one other k before too)
        (λ here. absurd (not_vacant old k n.key (shelf.found one k before) vacant here.1))
        (key_in_cases names n other k i))
        (λ here. ⊎_elim
        (λ before. absurd (not_vacant old k n.key (shelf.found other k before) vacant here.1))
        (λ too. here.0 ∙ sym too.0)
        (key_in_cases names n other k i))
        (key_in_cases names n one k h);
  }

  pub told-added : told (held_in new (names ++ n ∷ [])) (string_bytes n.name) ≡ Some bytes.items
  unfolding or_else
  told-added =
      let nn = string_bytes n.name in
      let same : bytes_eq nn nn ≡ true = (bytes_eq-Decides nn nn).1 refl in
      let key : key_in (names ++ n ∷ []) nn ≡ Some n.key = key_in-append names n nn ∙ ap (λ o. or_else o (cond (bytes_eq nn nn) (Some n.key) None)) absent ∙ ap (λ b. cond b (Some n.key) None) same in
      told-held new (names ++ n ∷ []) nn ∙ ap (option_map (bytes_at new)) key ∙ ap (λ slot. Some (option_map_or (λ (v : Bytes). v.items) slot [])) updates.changed

  pub added-elsewhere : SameElsewhere (string_bytes n.name) (held_in old names) (held_in new (names ++ n ∷ []))
  unfolding or_else
  added-elsewhere = λ other apart.
      let differs : bytes_eq other (string_bytes n.name) ≡ false = false_from_ne_true _ (λ e. apart ((bytes_eq-Decides other (string_bytes n.name)).0 e)) in
      let keys : key_in (names ++ n ∷ []) other ≡ key_in names other = key_in-append names n other ∙ ap (λ b. or_else (key_in names other) (cond b (Some n.key) None)) differs ∙ or_none (key_in names other) in
      same_told old new names (names ++ n ∷ []) other keys (λ k h. updates.others k (not_vacant old k n.key (shelf.found other k h) vacant))

pub bytes_under : (slab : Slab Bytes) (key : ℕ) (bytes : Bytes) → get slab key ≡ Some bytes → bytes_at slab key ≡ bytes.items
bytes_under slab key bytes e = ap (λ slot. option_map_or (λ (v : Bytes). v.items) slot []) e

pub not_none : (slot : Option Bytes) → is_some slot ≡ true → slot ≢ None
not_none None h e = absurd (false≢true h)
not_none (Some bytes) h e = cc

pub OnOk-along : {T E : Type 0} (result : Result T E) (P Q : Type 0) → (P → Q) → OnOk result P → OnOk result Q
OnOk-along (Ok x) P Q f h = f h
OnOk-along (Err e) P Q f h = h

-- the same, as the code goes: room is made first, and the name's bytes are a copy
module _ (old mid new : Slab Bytes) (names after : List Named) (n : Named) (name : List ℕ) (shelf : IsShelf old names) (same : string_bytes n.name ≡ name) (absent : key_in names name ≡ None) (rest : mid ≡ record old { capacity = mid.capacity }) (vacant : get mid n.key ≡ None) (bytes : Bytes) (updates : Updates mid new n.key (Some bytes)) (push : after ≡ names ++ n ∷ []) where
  absent_copy : key_in names (string_bytes n.name) ≡ None
  absent_copy = ap (key_in names) same ∙ absent

  vacant_old : get old n.key ≡ None
  vacant_old = sym (ap (λ s. get s n.key) rest) ∙ vacant

  updates_old : Updates old new n.key (Some bytes)
  updates_old = record {
    changed = updates.changed;
    others = λ key apart. updates.others key apart ∙ ap (λ s. get s key) rest;
  }

  pub IsShelf-put : IsShelf new after
  IsShelf-put = rw push (IsShelf-added old new names n shelf absent_copy vacant_old bytes updates_old)

  pub told-put : told (held_in new after) name ≡ Some bytes.items
  told-put = rw (push, ← same) (told-added old new names n shelf absent_copy vacant_old bytes updates_old)

  pub put-elsewhere : SameElsewhere name (held_in old names) (held_in new after)
  put-elsewhere = λ other apart. rw push (added-elsewhere old new names n shelf absent_copy vacant_old bytes updates_old other (λ e. apart (e ∙ same)))

-- a file that was told has more bytes
pub Grows-some : (old new : Option (List ℕ)) (had more : List ℕ) → old ≡ Some had → new ≡ Some (had ++ more) → Grows true old new more
Grows-some old new had more was is = let P : Option (List ℕ) → Type 0 = λ o. Grows true o new more in subst P (sym was) (inl is)

pub from_ok : {T E : Type 0} (result : Result T E) (P : Type 0) → is_err result ≡ false → OnOk result P → P
from_ok (Ok x) P e h = h
from_ok (Err x) P e h = absurd (false≢true (sym e))

none_some : (key : ℕ) → None ≢ Some key
none_some key e = cc

bytes_differ : (xs ys : List ℕ) → bytes_eq xs ys ≡ false → bytes_eq ys xs ≡ false
bytes_differ xs ys e = false_from_ne_true _ (λ h. false≢true (sym e ∙ (bytes_eq-Decides xs ys).1 (sym ((bytes_eq-Decides ys xs).0 h))))

-- a name that is taken away has no key
key_in-forgotten : (names : List Named) (name : List ℕ) → key_in (filter (has_other_name name) names) name ≡ None
key_in-forgotten [] name = refl
key_in-forgotten (n ∷ ns) name =
    elim (bytes_eq (string_bytes n.name) name) as (λ b. bytes_eq (string_bytes n.name) name ≡ b → key_in (cond (not b) (n ∷ filter (has_other_name name) ns) (filter (has_other_name name) ns)) name ≡ None) [
      | true ↦ λ e. key_in-forgotten ns name
      | false ↦ λ e.
          let differs : bytes_eq name (string_bytes n.name) ≡ false = bytes_differ (string_bytes n.name) name e in
          rw differs (key_in-forgotten ns name)
    ] refl

-- and every other name has the key that it had
key_in-kept : (names : List Named) (name other : List ℕ) → other ≢ name → key_in (filter (has_other_name name) names) other ≡ key_in names other
key_in-kept [] name other apart = refl
key_in-kept (n ∷ ns) name other apart =
    elim (bytes_eq (string_bytes n.name) name) as (λ b. bytes_eq (string_bytes n.name) name ≡ b → key_in (cond (not b) (n ∷ filter (has_other_name name) ns) (filter (has_other_name name) ns)) other ≡ cond (bytes_eq other (string_bytes n.name)) (Some n.key) (key_in ns other)) [
      | true ↦ λ e.
          let same : string_bytes n.name ≡ name = (bytes_eq-Decides (string_bytes n.name) name).0 e in
          let differs : bytes_eq other (string_bytes n.name) ≡ false = false_from_ne_true _ (λ h. apart ((bytes_eq-Decides other (string_bytes n.name)).0 h ∙ same)) in
          rw differs (key_in-kept ns name other apart)
      | false ↦ λ e. ap (λ rest. cond (bytes_eq other (string_bytes n.name)) (Some n.key) rest) (key_in-kept ns name other apart)
    ] refl

-- the shelf after a file was taken away
module _ (old new : Slab Bytes) (names after : List Named) (name : List ℕ) (key : ℕ) (shelf : IsShelf old names) (at : key_in names name ≡ Some key) (updates : Updates old new key None) (forgets : after ≡ filter (has_other_name name) names) where
  none_left : key_in after name ≡ None
  none_left = ap (λ ns. key_in ns name) forgets ∙ key_in-forgotten names name

  same_key : (other : List ℕ) → other ≢ name → key_in after other ≡ key_in names other
  same_key other differs = ap (λ ns. key_in ns other) forgets ∙ key_in-kept names name other differs

  not_gone : (one : List ℕ) (k : ℕ) → key_in after one ≡ Some k → one ≢ name
  not_gone one k h e = absurd (none_some k (sym none_left ∙ ap (key_in after) (sym e) ∙ h))

  pub IsShelf-removed : IsShelf new after
  IsShelf-removed = record {
    found = λ one k h.
        let was : key_in names one ≡ Some k = sym (same_key one (not_gone one k h)) ∙ h in
        let differs : k ≢ key = λ e. not_gone one k h (shelf.apart one name key (was ∙ ap Some e) at) in
        ContainsKey-along old new k (updates.others k differs) (shelf.found one k was);
    apart = λ one other k h i. shelf.apart one other k (sym (same_key one (not_gone one k h)) ∙ h) (sym (same_key other (not_gone other k i)) ∙ i);
  }

  pub told-removed : told (held_in new after) name ≡ None
  told-removed = told-held new after name ∙ ap (option_map (bytes_at new)) none_left

  pub removed-elsewhere : SameElsewhere name (held_in old names) (held_in new after)
  removed-elsewhere = λ other differs. same_told old new names after other (same_key other differs)
      (λ k h. updates.others k (λ e. differs (shelf.apart other name key (h ∙ ap Some e) at)))

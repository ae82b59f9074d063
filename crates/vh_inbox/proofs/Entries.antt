-- Items as entries of a journal.
use Rattle.std.proofs.Common.{◌≡◌, ℕ, ◌+◌, ◌<◌, ◌≤◌, List, [], ◌∷◌, ◌++◌, length, map, sym, ap, ◌∙◌, ⊎_elim, append_assoc, arith}
use Rattle.std.specs.Prelude.{slice_index_or}
use Rattle.std.proofs.lemmas.Bool.{cases_lt}
use Rattle.std.proofs.lemmas.List.{map-append, length_push, get_or_append_left, get_or_push}
use Rattle.vh_journal.specs.declared.entry.Entry.{Entry}
use Rattle.vh_inbox.specs.declared.rule.Item.{Item}
use Rattle.vh_inbox.specs.Values.{AtDrain, entry_at, item_of, IsUpTo}

pub items_push : (entries : List Entry) (at : ℕ) (x : Item) → map item_of (entries ++ entry_at at x ∷ []) ≡ map item_of entries ++ x ∷ []
items_push entries at x = map-append item_of entries (entry_at at x ∷ [])

-- the drain after an item was taken and pushed
pub took : (drain was now : AtDrain) (before entries : List Entry) (at : ℕ) (x : Item) → entries ≡ before ++ entry_at at x ∷ [] → was ≡ record drain { taken = map item_of before }
    → now ≡ record was { taken = was.taken ++ x ∷ [] } → now ≡ record drain { taken = map item_of entries }
took drain was now before entries at x pushed known is =
    is ∙ ap (λ (d : AtDrain). record d { taken = d.taken ++ x ∷ [] }) known
    ∙ ap (λ (taken : List Item). record drain { taken = taken }) (sym (ap (map item_of) pushed ∙ items_push before at x))

-- some items were added at a sample
abbrev pub Adds : ℕ → List Entry → List Entry → Type 0
Adds at old new = (taken : List Item) × (new ≡ old ++ map (entry_at at) taken)

pub adds_push : (at : ℕ) (old now : List Entry) (x : Item) → Adds at old now → Adds at old (now ++ entry_at at x ∷ [])
adds_push at old now x adds =
    let one : List Entry = entry_at at x ∷ [] in (
      adds.0 ++ x ∷ [],
      ap (λ (entries : List Entry). entries ++ one) adds.1 ∙ append_assoc old (map (entry_at at) adds.0) one
          ∙ ap (λ (more : List Entry). old ++ more) (sym (map-append (entry_at at) adds.0 (x ∷ []))),
    )

pub up_to_push : (at : ℕ) (entries : List Entry) (x : Item) → IsUpTo at entries → IsUpTo at (entries ++ entry_at at x ∷ [])
up_to_push at entries x up_to = record { never_fall = never_fall; most = most }
  where
    last : Entry
    last = entry_at at x

    now : List Entry
    now = entries ++ last ∷ []

    long : length now ≡ length entries + 1
    long = length_push entries last

    old_one : (i : ℕ) (d : Entry) → i < length entries → (slice_index_or now i d).sample ≡ (slice_index_or entries i d).sample
    old_one i d lt = ap (λ (e : Entry). e.sample) (get_or_append_left entries (last ∷ []) d i lt)

    last_one : (i : ℕ) (d : Entry) → length entries ≡ i → (slice_index_or now i d).sample ≡ at
    last_one i d is = ap (λ (e : Entry). e.sample) (get_or_push entries last d i is)

    most : (i : ℕ) (d : Entry) → i < length now → (slice_index_or now i d).sample ≤ at
    most i d lt =
        ⊎_elim (λ (old : i < length entries). omega (arith, old_one i d old, up_to.most i d old))
        (λ (past : length entries ≤ i). omega (arith, last_one i d (omega (arith, past, lt, long)))) (cases_lt i (length entries))

    never_fall : (i j : ℕ) (d : Entry) → i ≤ j → j < length now → (slice_index_or now i d).sample ≤ (slice_index_or now j d).sample
    never_fall i j d le lt =
        ⊎_elim (λ (old : j < length entries). omega (arith, old_one i d (omega (arith, old, le)), old_one j d old, up_to.never_fall i j d le old))
        (λ (past : length entries ≤ j). omega (arith, last_one j d (omega (arith, past, lt, long)), most i d (omega (arith, le, lt)))) (cases_lt j (length entries))

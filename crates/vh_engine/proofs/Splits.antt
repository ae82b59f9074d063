-- A block's entries in two: those at its first sample, and those ahead.
use Rattle.std.proofs.Common.{◌≡◌, ◌∙◌, ℕ, ◌+◌, ◌-◌, ◌<◌, ◌≤◌, List, [], ◌∷◌, ◌++◌, length, take, drop, Some, refl, sym, ap, subst, arith, length-append, length-take, length-drop, take-append-drop}
use Rattle.std.specs.Prelude.{All, slice_index_or}
use Rattle.std.proofs.lemmas.List.{get_or-take, get_or-drop, take_all}
use Rattle.std.proofs.lemmas.List.Elements.{All-take, All-drop, All-weaker}
use Rattle.vh_journal.specs.declared.entry.Entry.{Entry}
use Rattle.vh_meaning.specs.Rendering.{message_sample, stops}
use Rattle.vh_engine.specs.Between.{AreBetween, IsUpTo}
use Rattle.vh_engine.proofs.Heads.{IsEdit, edits_behind, stops_of_head}

-- the entries from a place on
abbrev pub rest_of : List Entry → ℕ → List Entry
rest_of entries head = take (length entries - head) (drop head entries)

pub rest_is : (entries : List Entry) (head : ℕ) → rest_of entries head ≡ drop head entries
rest_is entries head = take_all (length entries - head) (drop head entries) (let long = length-drop head entries in omega (arith, long))

pub split_is : (entries : List Entry) (head : ℕ) → take head entries ++ rest_of entries head ≡ entries
split_is entries head = ap (λ (l : List Entry). take head entries ++ l) (rest_is entries head) ∙ take-append-drop head entries

module _ (entries : List Entry) (head at : ℕ) (upto : IsUpTo entries head at) where
  pub first_all : All (λ entry. entry.sample ≤ at) (take head entries)
  first_all k d lt =
      let most = upto.most in
      let long = length-take head entries in
      let within : k < head = omega (arith, lt, long, most) in
      subst (λ (e : Entry). e.sample ≤ at) (sym (get_or-take head entries k d within)) (upto.before k d within)

  dropped_ahead : All (λ entry. at < entry.sample) (drop head entries)
  dropped_ahead k d lt =
      let long = length-drop head entries in
      subst (λ (e : Entry). at < e.sample) (sym (get_or-drop head entries k d)) (upto.after (head + k) d (omega arith) (omega (arith, lt, long)))

  pub ahead_all : All (λ entry. at < entry.sample) (rest_of entries head)
  ahead_all = All-take (λ (e : Entry). at < e.sample) (length entries - head) (drop head entries) dropped_ahead

  pub rest_edits : All (λ entry. (t : ℕ) → message_sample entry.sample entry.command ≡ Some t → t ≡ at) entries → All IsEdit (rest_of entries head)
  rest_edits messages =
      edits_behind at (rest_of entries head) ahead_all
      (All-take (λ (e : Entry). (t : ℕ) → message_sample e.sample e.command ≡ Some t → t ≡ at) (length entries - head) (drop head entries)
      (All-drop (λ (e : Entry). (t : ℕ) → message_sample e.sample e.command ≡ Some t → t ≡ at) head entries messages))

  pub stops_of_first : All (λ entry. (t : ℕ) → message_sample entry.sample entry.command ≡ Some t → t ≡ at) entries → stops (take head entries) ≡ stops entries
  stops_of_first messages = sym (stops_of_head (take head entries) (rest_of entries head) (rest_edits messages)) ∙ ap stops (split_is entries head)

  pub rest_between : (past : ℕ) → ((i j : ℕ) (d : Entry) → i < j → j < length entries → (slice_index_or entries i d).sample ≤ (slice_index_or entries j d).sample) → All (λ entry. entry.sample < past) entries
      → AreBetween at past (rest_of entries head)
  rest_between past rising to =
      subst (λ (l : List Entry). AreBetween at past l) (sym (rest_is entries head)) (record {
        rising = λ i j d lt within.
            let long = length-drop head entries in
            subst (λ (e : Entry). e.sample ≤ (slice_index_or (drop head entries) j d).sample) (sym (get_or-drop head entries i d))
            (subst (λ (e : Entry). (slice_index_or entries (head + i) d).sample ≤ e.sample) (sym (get_or-drop head entries j d))
            (rising (head + i) (head + j) d (omega (arith, lt)) (omega (arith, within, long))));
        from = All-weaker (λ (e : Entry). at < e.sample) (λ (e : Entry). at ≤ e.sample) (λ e lt. omega (arith, lt)) (drop head entries) dropped_ahead;
        to = All-drop (λ (e : Entry). e.sample < past) head entries to;
      })

pub lengths : (entries : List Entry) (head : ℕ) → length (take head entries) + length (rest_of entries head) ≡ length entries
lengths entries head = sym (length-append (take head entries) (rest_of entries head)) ∙ ap (λ (l : List Entry). length l) (split_is entries head)

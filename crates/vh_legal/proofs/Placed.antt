-- Entries at their places, one more.
use Rattle.std.proofs.Common.{◌≡◌, ◌∙◌, inl, inr, ℕ, ◌+◌, ◌-◌, ◌<◌, ◌≤◌, List, [], ◌∷◌, ◌++◌, length, take, get_or, sym, ap, subst, arith}
use Rattle.std.specs.Prelude.{All, AllPairs}
use Rattle.std.proofs.lemmas.List.{take_more, get_or-take, get_or_default, length-take}
use Rattle.std.proofs.lemmas.Bool.{cases_lt}
use Rattle.std.proofs.lemmas.List.Elements.{All-push}
use Rattle.std.proofs.lemmas.List.Quantifiers.{all_pairs_push}
use Rattle.vh_journal.specs.declared.entry.Entry.{Entry}
use Rattle.vh_legal.specs.Blocks.{IsAtBlock}
use Rattle.vh_legal.specs.Legal.{NeverFall, ArePlaced}

pub placed_more : (samples : ℕ) (pattern : List ℕ) (editors : ℕ) (entries : List Entry) (i : ℕ) (d : Entry) → i < length entries
    → ((k : ℕ) (e : Entry) → k < i → (get_or entries k e).sample ≤ (get_or entries i d).sample) → IsAtBlock samples pattern (get_or entries i d).sample → (get_or entries i d).editor < editors
    → ArePlaced samples pattern editors (take i entries) → ArePlaced samples pattern editors (take (i + 1) entries)
placed_more samples pattern editors entries i d within above block editor placed =
    let entry = get_or entries i d in
    let size = length-take i entries in
    let next : take i entries ++ entry ∷ [] ≡ take (i + 1) entries = sym (take_more entries i d within) in
    let each : (k : ℕ) (e : Entry) → k < length (take i entries) → (get_or (take i entries) k e).sample ≤ entry.sample = λ k e lt.
    let before : k < i = omega (arith, lt, size) in
    let here = above k e before in
    let same : (get_or (take i entries) k e).sample ≡ (get_or entries k e).sample = ap (λ (x : Entry). x.sample) (get_or-take i entries k e before) in
    omega (arith, here, same) in
    record {
      rising = subst NeverFall next (all_pairs_push (λ (a b : Entry). a.sample ≤ b.sample) (take i entries) entry placed.rising each);
      blocks = subst (All (λ (e : Entry). IsAtBlock samples pattern e.sample)) next (All-push (λ (e : Entry). IsAtBlock samples pattern e.sample) (take i entries) entry placed.blocks block);
      editors_are = subst (All (λ (e : Entry). e.editor < editors)) next (All-push (λ (e : Entry). e.editor < editors) (take i entries) entry placed.editors_are editor);
    }

-- entries whose samples fall
pub falls : (entries : List Entry) (i least : ℕ) (d : Entry) → i < length entries → (0 < i → least ≡ (get_or entries (i - 1) d).sample) → (i ≡ 0 → least ≡ 0) → (get_or entries i d).sample < least → NeverFall entries → ⊥
falls entries i least d within last first less rising = elim (cases_lt 0 i) [
  | inl some ↦ let before = rising (i - 1) i d (omega (arith, some)) within in let is = last some in omega (arith, before, is, less)
  | inr none ↦ let is = first (omega (arith, none)) in omega (arith, is, less)
]

-- no sample so far is above that of the next entry
pub above_more : (entries : List Entry) (i least : ℕ) (d : Entry) → i < length entries → ((k : ℕ) (e : Entry) → k < i → (get_or entries k e).sample ≤ least) → least ≤ (get_or entries i d).sample
    → (k : ℕ) (e : Entry) → k < i + 1 → (get_or entries k e).sample ≤ (get_or entries i d).sample
above_more entries i least d within above more k e lt = elim (cases_lt k i) [
  | inl before ↦ let here = above k e before in omega (arith, here, more)
  | inr past ↦
      let same : i ≡ k = omega (arith, lt, past) in
      let is : (get_or entries i d).sample ≡ (get_or entries k e).sample = ap (λ (x : Entry). x.sample) (get_or_default entries i d e within) ∙ ap (λ n. (get_or entries n e).sample) same in
      omega (arith, is)
]

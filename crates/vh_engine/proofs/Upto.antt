-- The entries up to a sample stand before the first one behind it.
use Rattle.std.proofs.Common.{◌≡◌, ◌∙◌, inl, inr, ℕ, ◌<◌, ◌≤◌, Bool, true, false, not, cond, ltb, List, length, get_or, Some, None, unwrap_or, refl, sym, subst, arith}
use Rattle.std.specs.List.{position, position_or_len}
use Rattle.std.proofs.lemmas.Bool.{cases_lt, ltb-true, ltb-false}
use Rattle.std.proofs.lemmas.List.Sums.{prefix_len-le-length, fails_before_first, passes_at_first}
use Rattle.vh_journal.specs.declared.entry.Entry.{Entry}
use Rattle.vh_engine.specs.Between.{IsUpTo}

module _ (s : ℕ) (entries : List Entry) (rising : (i j : ℕ) (d : Entry) → i < j → j < length entries → (get_or entries i d).sample ≤ (get_or entries j d).sample) where
  abbrev is_behind : Entry → Bool
  is_behind entry = ltb s entry.sample

  abbrev first : ℕ
  first = position_or_len is_behind entries

  most : first ≤ length entries
  most = prefix_len-le-length (λ (entry : Entry). not (is_behind entry)) entries

  upto_first : IsUpTo entries first s
  upto_first = record {
    most = most;
    before = λ i d lt. ltb-false s (get_or entries i d).sample (fails_before_first is_behind entries i d lt);
    after = λ i d from within.
        let here = ltb-true s (get_or entries first d).sample (passes_at_first is_behind entries d (omega (arith, from, within))) in
        elim (cases_lt first i) [
          | inl less ↦ let later = rising first i d less within in omega (arith, here, later)
          | inr more ↦ let same : first ≡ i = omega (arith, from, more) in subst (λ (k : ℕ). s < (get_or entries k d).sample) same here
        ];
  }

  found : unwrap_or (position is_behind entries) (length entries) ≡ first
  found =
      elim (ltb first (length entries)) as (λ b. ltb first (length entries) ≡ b → unwrap_or (cond b (Some first) None) (length entries) ≡ first) [
        | true ↦ λ is. refl
        | false ↦ λ is. let past = ltb-false first (length entries) is in omega (arith, past, most)
      ] refl

  pub upto_found : (place : ℕ) → place ≡ unwrap_or (position is_behind entries) (length entries) → IsUpTo entries place s
  upto_found place is = subst (λ (k : ℕ). IsUpTo entries k s) (sym (is ∙ found)) upto_first

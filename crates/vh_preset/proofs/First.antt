-- The first place at which a test passes.
use Rattle.std.proofs.Common.{◌≡◌, ℕ, ◌+◌, ◌<◌, ◌≤◌, ◌⊎◌, ⊎_elim, Bool, true, false, cond, ltb, List, length, get_or, map, Option, Some, None, refl, sym, ap, ◌∙◌, arith}
use Rattle.std.specs.List.{position, position_or_len, range_with_len}
use Rattle.std.proofs.lemmas.Bool.{cases_lt}
use Rattle.std.proofs.lemmas.Bool.Decides.{Decides-ltb}
use Rattle.std.proofs.lemmas.List.Sums.{position_or_len_is, fails_before_first}
use Rattle.std.proofs.lemmas.List.FromFn.{length-map-range_with_len, get_or-map-range_with_len}

pub lt_yes : (a b : ℕ) → a < b → ltb a b ≡ true
lt_yes a b h = (Decides-ltb a b).1 h

pub lt_no : (a b : ℕ) → b ≤ a → ltb a b ≡ false
lt_no a b h = elim (ltb a b) as (λ t. (t ≡ true → a < b) → t ≡ false) [ true ↦ λ f. absurd (let lt : a < b = f refl in omega arith) | false ↦ λ f. refl ] (Decides-ltb a b).0

pub no_lt : (a b : ℕ) → ltb a b ≡ false → b ≤ a
no_lt a b h = ⊎_elim (λ lt. absurd (let e = sym (lt_yes a b lt) ∙ h in (cc e))) (λ le. le) (cases_lt a b)

module _ {X : Type 0} (p : X → Bool) (xs : List X) where
  pub position_some : (i : ℕ) (d : X) → i < length xs → ((k : ℕ) → k < i → p (get_or xs k d) ≡ false) → p (get_or xs i d) ≡ true → position p xs ≡ Some i
  position_some i d within before here =
      let e : position_or_len p xs ≡ i = position_or_len_is p xs i d (omega arith) before (λ _. here) in
      ap (λ n. cond (ltb n (length xs)) (Some n) None) e ∙ ap (λ b. cond b (Some i) None) (lt_yes i (length xs) within)

  pub position_none : (d : X) → ((k : ℕ) → k < length xs → p (get_or xs k d) ≡ false) → position p xs ≡ None
  position_none d none =
      let n : ℕ = length xs in
      let e : position_or_len p xs ≡ n = position_or_len_is p xs n d (omega arith) none (λ h. absurd (omega arith)) in
      ap (λ m. cond (ltb m n) (Some m) None) e ∙ ap (λ b. cond b (Some n) None) (lt_no n n (omega arith))

  pub none_passes : position p xs ≡ None → (k : ℕ) (d : X) → k < length xs → p (get_or xs k d) ≡ false
  none_passes h k d within =
      let n : ℕ = position_or_len p xs in
      ⊎_elim
      (λ lt. absurd (let e = sym (ap (λ b. cond b (Some n) None) (lt_yes n (length xs) lt)) ∙ h in (cc e)))
      (λ le. fails_before_first p xs k d (omega arith))
      (cases_lt n (length xs))

module _ {X : Type 0} (p : X → Bool) (f : ℕ → X) (n : ℕ) where
  at_place : (k : ℕ) → k < n → p (get_or (map f (range_with_len 0 n)) k (f 0)) ≡ p (f k)
  at_place k h = ap p (get_or-map-range_with_len f 0 n k k (f 0) h (omega arith))

  pub range_some : (i : ℕ) → i < n → ((k : ℕ) → k < i → p (f k) ≡ false) → p (f i) ≡ true → position p (map f (range_with_len 0 n)) ≡ Some i
  range_some i within before here =
      let long : length (map f (range_with_len 0 n)) ≡ n = length-map-range_with_len f 0 n in
      position_some p (map f (range_with_len 0 n)) i (f 0) (omega (arith, long)) (λ k h. at_place k (omega arith) ∙ before k h) (at_place i within ∙ here)

  pub range_none : ((k : ℕ) → k < n → p (f k) ≡ false) → position p (map f (range_with_len 0 n)) ≡ None
  range_none none =
      let long : length (map f (range_with_len 0 n)) ≡ n = length-map-range_with_len f 0 n in
      position_none p (map f (range_with_len 0 n)) (f 0) (λ k h. let small : k < n = omega (arith, long) in at_place k small ∙ none k small)

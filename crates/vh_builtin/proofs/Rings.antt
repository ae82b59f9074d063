-- Rings.
use Rattle.std.proofs.Common.{◌≡◌, ℕ, zero, suc, ◌+◌, ◌-◌, ◌%◌, ◌<◌, ◌≤◌, true, false, nat_lt, List, ◌∷◌, ◌++◌, length, replicate, take, get_or, set, ℤ, pos, refl, sym, ap, ap₂, ◌∙◌, arith}
use Rattle.std.proofs.lemmas.Bool.{ltb-true, ltb-false}
use Rattle.std.proofs.lemmas.List.{get_or-set_same, get_or-set_other, get_or_past}
use Rattle.vh_builtin.specs.Delay.{all_silent}
use Rattle.vh_builtin.specs.Rings.{listed, before, history}

listed_same : (f g : ℕ → ℤ) (n : ℕ) → ((i : ℕ) → i < n → f i ≡ g i) → listed f n ≡ listed g n
unfolding listed
listed_same f g zero same = refl
listed_same f g (suc n) same = ap₂ (λ (x : ℤ) (xs : List ℤ). x ∷ xs) (same 0 (omega arith)) (listed_same (λ i. f (suc i)) (λ i. g (suc i)) n (λ i lt. same (suc i) (omega (arith, lt))))

length_listed : (f : ℕ → ℤ) (n : ℕ) → length (listed f n) ≡ n
unfolding listed
length_listed f zero = refl
length_listed f (suc n) = ap (λ k. suc k) (length_listed (λ i. f (suc i)) n)

get_listed : (f : ℕ → ℤ) (n i : ℕ) (d : ℤ) → i < n → get_or (listed f n) i d ≡ f i
unfolding listed
get_listed f zero i d lt = absurd (omega (arith, lt))
get_listed f (suc n) zero d lt = refl
get_listed f (suc n) (suc i) d lt = get_listed (λ k. f (suc k)) n i d (omega (arith, lt))

take_listed : (f : ℕ → ℤ) (n k : ℕ) → k ≤ n → take k (listed f n) ≡ listed f k
unfolding listed
take_listed f n zero le = refl
take_listed f zero (suc k) le = absurd (omega (arith, le))
take_listed f (suc n) (suc k) le = ap (λ (xs : List ℤ). f 0 ∷ xs) (take_listed (λ i. f (suc i)) n k (omega (arith, le)))

-- one value more in front
listed_more : (f g : ℕ → ℤ) (n : ℕ) (u : ℤ) → f 0 ≡ u → ((i : ℕ) → i < n → f (suc i) ≡ g i) → listed f (suc n) ≡ u ∷ take n (listed g (suc n))
unfolding listed
listed_more f g n u first rest = ap₂ (λ (x : ℤ) (xs : List ℤ). x ∷ xs) first (listed_same (λ i. f (suc i)) g n rest ∙ sym (take_listed g (suc n) n (omega arith)))

pub length_history : (ring : List ℤ) (at : ℕ) → length (history ring at) ≡ 4095
unfolding history
length_history ring at = length_listed (before ring at) 4095

pub get_history : (ring : List ℤ) (at i place : ℕ) → i < 4095 → place ≡ (at + 4095 - i) % 4096 → get_or (history ring at) i (pos 0) ≡ get_or ring place (pos 0)
unfolding history
get_history ring at i place lt is = get_listed (before ring at) 4095 i (pos 0) lt ∙ ap (λ p. get_or ring p (pos 0)) (sym is)

-- a ring that was written once more
newest : (ring : List ℤ) (at : ℕ) (u : ℤ) → at < 4096 → length ring ≡ 4096 → before (set ring at u) (at + 1) 0 ≡ u
newest ring at u within long = ap (λ p. get_or (set ring at u) p (pos 0)) (let e : (at + 1 + 4095 - 0) % 4096 ≡ at = omega (arith, within) in e) ∙ get_or-set_same ring at u (pos 0) (omega (arith, within, long))

older : (ring : List ℤ) (at : ℕ) (u : ℤ) (i : ℕ) → at < 4096 → i < 4094 → before (set ring at u) (at + 1) (suc i) ≡ before ring at i
older ring at u i within lt =
    let place : (at + 1 + 4095 - suc i) % 4096 ≡ (at + 4095 - i) % 4096 = ap (λ n. n % 4096) (let e : at + 1 + 4095 - suc i ≡ at + 4095 - i = omega (arith, lt) in e) in
    ap (λ p. get_or (set ring at u) p (pos 0)) place
    ∙ get_or-set_other ring at ((at + 4095 - i) % 4096) u (pos 0) (λ same. absurd (omega (arith, same, lt, within)))

pub history_more : (ring : List ℤ) (at : ℕ) (u : ℤ) → at < 4096 → length ring ≡ 4096 → history (set ring at u) (at + 1) ≡ u ∷ take 4094 (history ring at)
unfolding history
history_more ring at u within long = listed_more (before (set ring at u) (at + 1)) (before ring at) 4094 u (newest ring at u within long) (λ i lt. older ring at u i within lt)

-- a ring's first place comes behind its last
around : (ring : List ℤ) (i : ℕ) → i < 4095 → before ring 4096 i ≡ before ring 0 i
around ring i lt = ap (λ p. get_or ring p (pos 0)) (let e : (4096 + 4095 - i) % 4096 ≡ (0 + 4095 - i) % 4096 = omega (arith, lt) in e)

pub history_around : (ring : List ℤ) → history ring 4096 ≡ history ring 0
unfolding history
history_around ring = listed_same (before ring 4096) (before ring 0) 4095 (λ i lt. around ring i lt)

listed_silent : (f : ℕ → ℤ) (n : ℕ) → ((i : ℕ) → i < n → f i ≡ pos 0) → listed f n ≡ replicate n (pos 0)
unfolding listed
listed_silent f zero silent = refl
listed_silent f (suc n) silent = ap₂ (λ (x : ℤ) (xs : List ℤ). x ∷ xs) (silent 0 (omega arith)) (listed_silent (λ i. f (suc i)) n (λ i lt. silent (suc i) (omega (arith, lt))))

-- a ring of zeros keeps silence
pub history_silent : (ring : List ℤ) (at : ℕ) → ((k : ℕ) → get_or ring k (pos 0) ≡ pos 0) → history ring at ≡ replicate 4095 (pos 0)
unfolding history
history_silent ring at silent = listed_silent (before ring at) 4095 (λ i lt. silent ((at + 4095 - i) % 4096))

-- a ring whose places were all made 0
pub all_made_silent : (ring : List ℤ) (at size : ℕ) → ((place : ℕ) → place < size → get_or ring place (pos 0) ≡ pos 0) → length ring ≤ size → history ring at ≡ replicate 4095 (pos 0)
all_made_silent ring at size silent all = history_silent ring at (λ k. elim (nat_lt k size) as (λ t. nat_lt k size ≡ t → get_or ring k (pos 0) ≡ pos 0) [
  | true ↦ λ test. silent k (ltb-true k size test)
  | false ↦ λ test. get_or_past ring k (pos 0) (omega (arith, all, ltb-false k size test))
] refl)

-- both channels keep silence
pub both_silent : (left right : List ℤ) → left ≡ replicate 4095 (pos 0) → right ≡ replicate 4095 (pos 0) → left ++ right ≡ all_silent
unfolding all_silent
both_silent left right is too = ap₂ (λ (a b : List ℤ). a ++ b) is too

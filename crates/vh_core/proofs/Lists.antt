-- Lists of numbers in a row, numbered lists, and lists of lists.
use Rattle.std.proofs.Common.{◌≡◌, ◌∙◌, inl, inr, ℕ, zero, suc, ◌+◌, ◌-◌, ◌*◌, ◌≤◌, ◌<◌, Bool, cond, List, [], ◌∷◌, ◌++◌, length, refl, sym, ap, arith}
use Rattle.std.specs.Prelude.{count_by, nat_le, ◌==◌}
use Rattle.std.proofs.lemmas.Bool.{eq-eqb, ne_eqb, le-leb, lt-leb, cases_order}
use Rattle.std.specs.List.{range_with_len, enumerate_from, flat_map}
use Rattle.std.proofs.Math.Nat.{suc-mul, mul-add, mul-le-mul_left}
use Rattle.std.proofs.lemmas.Grind.{flat_map-append}
use Rattle.std.proofs.lemmas.List.{length-append, append-nil}
use Rattle.std.proofs.lemmas.List.Sums.{sum_by-cons}

-- numbers in a row, cut in two
pub range_plus : (a m n : ℕ) → range_with_len a (m + n) ≡ range_with_len a m ++ range_with_len (a + m) n
range_plus a zero n =
    let none : 0 + n ≡ n = omega arith in
    let same : a ≡ a + 0 = omega arith in
    ap (range_with_len a) none ∙ ap (λ b. range_with_len b n) same
range_plus a (suc m) n =
    let one : suc m + n ≡ suc (m + n) = omega arith in
    let at : (a + 1) + m ≡ a + suc m = omega arith in
    ap (range_with_len a) one ∙ ap (λ (l : List ℕ). a ∷ l) (range_plus (a + 1) m n ∙ ap (λ b. range_with_len (a + 1) m ++ range_with_len b n) at)

pub enumerate_plus : {A : Type 0} (n : ℕ) (xs ys : List A) → enumerate_from n (xs ++ ys) ≡ enumerate_from n xs ++ enumerate_from (n + length xs) ys
enumerate_plus n [] ys =
    let same : n ≡ n + 0 = omega arith in
    ap (λ m. enumerate_from m ys) same
enumerate_plus n (x ∷ xs) ys =
    let at : (n + 1) + length xs ≡ n + suc (length xs) = omega arith in
    ap (λ l. (n, x) ∷ l) (enumerate_plus (n + 1) xs ys ∙ ap (λ m. enumerate_from (n + 1) xs ++ enumerate_from m ys) at)

-- as long where each part is as long
pub same_long : {A B : Type 0} (f g : A → List B) → ((x : A) → length (f x) ≡ length (g x)) → (xs : List A) → length (flat_map f xs) ≡ length (flat_map g xs)
same_long f g each [] = refl
same_long f g each (x ∷ xs) =
    let here = each x in
    let rest = same_long f g each xs in
    let one = length-append (f x) (flat_map f xs) in
    let other = length-append (g x) (flat_map g xs) in
    omega (arith, here, rest, one, other)

-- no longer than so much for each part
pub most_long : {A B : Type 0} (f : A → List B) (most : ℕ) → ((x : A) → length (f x) ≤ most) → (xs : List A) → length (flat_map f xs) ≤ length xs * most
most_long f most each [] = omega arith
most_long f most each (x ∷ xs) =
    let here = each x in
    let rest = most_long f most each xs in
    let one = length-append (f x) (flat_map f xs) in
    let times = suc-mul (length xs) most in
    omega (arith, here, rest, one, times)

-- where there is a place, there is an element
pub some_of : {A : Type 0} (xs : List A) (k : ℕ) → k < length xs → A
some_of [] k lt = absurd (omega (arith, lt))
some_of (x ∷ xs) k lt = x

-- one more of numbers in a row
pub flat_map_upto : {B : Type 0} (f : ℕ → List B) (from place next : ℕ) → from ≤ place → next ≡ place + 1
    → flat_map f (range_with_len from (next - from)) ≡ flat_map f (range_with_len from (place - from)) ++ f place
flat_map_upto f from place next less more =
    let one : next - from ≡ (place - from) + 1 = omega arith in
    let at : from + (place - from) ≡ place = omega arith in
    ap (λ n. flat_map f (range_with_len from n)) one
    ∙ ap (flat_map f) (range_plus from (place - from) 1 ∙ ap (λ n. range_with_len from (place - from) ++ n ∷ []) at)
    ∙ flat_map-append f (range_with_len from (place - from)) (place ∷ [])
    ∙ ap (λ l. flat_map f (range_with_len from (place - from)) ++ l) (append-nil (f place))

-- so many are as a test says, where each is as one of two others says
pub count_split : {A : Type 0} (test one other : A → Bool) → ((x : A) → cond (test x) 1 0 ≡ cond (one x) 1 0 + cond (other x) 1 0) → (xs : List A) → count_by test xs ≡ count_by one xs + count_by other xs
count_split test one other each [] = omega arith
count_split test one other each (x ∷ xs) =
    let here = each x in
    let rest = count_split test one other each xs in
    let whole = sum_by-cons (λ y. cond (test y) 1 0) x xs in
    let left = sum_by-cons (λ y. cond (one y) 1 0) x xs in
    let right = sum_by-cons (λ y. cond (other y) 1 0) x xs in
    omega (arith, here, rest, whole, left, right)

pub flat_map_next : {B : Type 0} (f : ℕ → List B) (place next : ℕ) → next ≡ place + 1 → flat_map f (range_with_len 0 next) ≡ flat_map f (range_with_len 0 place) ++ f place
flat_map_next f place next more =
    let at : 0 + place ≡ place = omega arith in
    ap (λ n. flat_map f (range_with_len 0 n)) more
    ∙ ap (flat_map f) (range_plus 0 place 1 ∙ ap (λ n. range_with_len 0 place ++ n ∷ []) at)
    ∙ flat_map-append f (range_with_len 0 place) (place ∷ [])
    ∙ ap (λ l. flat_map f (range_with_len 0 place) ++ l) (append-nil (f place))

at_or_behind : (s n : ℕ) → cond (nat_le s n) 1 0 ≡ cond (n == s) 1 0 + cond (nat_le (s + 1) n) 1 0
at_or_behind s n = elim (cases_order s n) [
  | inl same ↦
      ap (λ t. cond t 1 0) (le-leb s n (omega (arith, same)))
      ∙ sym (ap (λ t. cond t 1 0 + cond (nat_le (s + 1) n) 1 0) (eq-eqb n s (sym same)) ∙ ap (λ t. 1 + cond t 1 0) (lt-leb (s + 1) n (omega (arith, same))))
  | inr apart ↦ elim apart [
    | inl below ↦
        ap (λ t. cond t 1 0) (le-leb s n (omega (arith, below)))
        ∙ sym (ap (λ t. cond t 1 0 + cond (nat_le (s + 1) n) 1 0) (ne_eqb n s (λ e. omega (arith, e, below))) ∙ ap (λ t. 0 + cond t 1 0) (le-leb (s + 1) n (omega (arith, below))))
    | inr above ↦
        ap (λ t. cond t 1 0) (lt-leb s n above)
        ∙ sym (ap (λ t. cond t 1 0 + cond (nat_le (s + 1) n) 1 0) (ne_eqb n s (λ e. omega (arith, e, above))) ∙ ap (λ t. 0 + cond t 1 0) (lt-leb (s + 1) n (omega (arith, above))))
  ]
]

-- from a number on: those at it, and those behind it
pub from_or_behind : {A : Type 0} (f : A → ℕ) (s : ℕ) (xs : List A) → count_by (λ x. nat_le s (f x)) xs ≡ count_by (λ x. f x == s) xs + count_by (λ x. nat_le (s + 1) (f x)) xs
from_or_behind f s xs = count_split (λ x. nat_le s (f x)) (λ x. f x == s) (λ x. nat_le (s + 1) (f x)) (λ x. at_or_behind s (f x)) xs

-- so many a place, one place more, and no more than at all places
pub times_next : (each from place : ℕ) → from ≤ place → each * (place + 1 - from) ≡ each * (place - from) + each
times_next each from place less =
    let one : place + 1 - from ≡ (place - from) + 1 = omega arith in
    let both = mul-add each (place - from) 1 in
    let more = ap (λ n. each * n) one in
    omega (arith, both, more)

pub times_within : (each from place count : ℕ) → from ≤ place → place < from + count → each * (place - from) + each ≤ each * count
times_within each from place count less within =
    let one : (place - from) + 1 ≤ count = omega arith in
    let most = mul-le-mul_left each one in
    let both = mul-add each (place - from) 1 in
    omega (arith, most, both)

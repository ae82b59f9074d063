-- No holder has references beyond its object's interfaces, and an opener has at least one.
use Rattle.std.proofs.Common.{◌≡◌, ◌≢◌, ℕ, zero, suc, ◌+◌, ◌<◌, ◌≤◌, List, [], ◌∷◌, length, get_or, set, replicate, refl, ap, take, ◌∙◌, inl, inr, arith, get_or-set_other}
use Rattle.std.specs.Prelude.{sum}
use Rattle.std.proofs.lemmas.Bool.{cases_lt}
use Rattle.std.proofs.lemmas.List.{get_or-replicate, get_or_past, take_all}
use Rattle.std.proofs.lemmas.List.Sums.{sum_by-cons, sum_by_more}
use Rattle.vh_counted.specs.declared.numbers.Numbers.{Numbers}
use Rattle.vh_counted.specs.Steps.{IsWithinInterfaces, total, at_interface, both, split_part, joined}

no_references : (k : ℕ) → get_or {A = ℕ} (replicate {A = ℕ} 16 0) k 0 ≡ 0
no_references k =
    let zeros : List ℕ = replicate 16 0 in
    elim (cases_lt k 16) [ inl lt ↦ get_or-replicate {A = ℕ} 16 k 0 0 lt | inr ge ↦ get_or_past zeros k 0 ge ]

pub beyond_part : (interfaces iface n room : ℕ) → iface < interfaces → IsWithinInterfaces interfaces (split_part iface n room)
beyond_part interfaces iface n room within = record {
  beyond = λ k past. let apart : k ≢ iface = omega arith in get_or-set_other (replicate 16 0) iface k n 0 apart ∙ no_references k;
}

both_at_most : (xs ys : List ℕ) (k : ℕ) → get_or (both xs ys) k 0 ≤ get_or xs k 0 + get_or ys k 0
both_at_most [] ys k = omega arith
both_at_most (x ∷ xs) [] k = omega arith
both_at_most (x ∷ xs) (y ∷ ys) zero = omega arith
both_at_most (x ∷ xs) (y ∷ ys) (suc k) = both_at_most xs ys k

pub beyond_joined : (interfaces : ℕ) (h other : Numbers) → IsWithinInterfaces interfaces h → IsWithinInterfaces interfaces other → IsWithinInterfaces interfaces (joined h other)
beyond_joined interfaces h other mine theirs = record { beyond = λ k past. omega (arith, both_at_most h.references other.references k, mine.beyond k past, theirs.beyond k past) }

sum_both_least : (xs ys : List ℕ) → sum xs ≤ sum (both xs ys)
sum_both_least [] ys = omega arith
sum_both_least (x ∷ xs) [] = omega arith
sum_both_least (x ∷ xs) (y ∷ ys) = omega (arith, sum_both_least xs ys, sum_by-cons (λ (n : ℕ). n) (x + y) (both xs ys), sum_by-cons (λ (n : ℕ). n) x xs)

pub some_joined : (h other : Numbers) → 1 ≤ total h → 1 ≤ total (joined h other)
some_joined h other some = omega (arith, sum_both_least h.references other.references)

-- where none is held below the last place, the last one holds all
pub last_held : (xs : List ℕ) (i : ℕ) → sum (take i xs) ≡ 0 → length xs ≡ i + 1 → 1 ≤ sum xs → 1 ≤ get_or xs i 0
last_held xs i none size some =
    let more = sum_by_more (λ (n : ℕ). n) xs i 0 (omega arith) in
    let all : sum (take (i + 1) xs) ≡ sum xs = ap (λ (ys : List ℕ). sum ys) (take_all (i + 1) xs (omega arith)) in
    omega (arith, more, all)

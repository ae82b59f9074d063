-- Blocks begin where a pattern's sizes, over and over, begin.
use Rattle.std.proofs.Common.{◌≡◌, ◌∙◌, ◌⊎◌, inl, inr, ℕ, zero, suc, ◌+◌, ◌-◌, ◌*◌, ◌/◌, ◌%◌, ◌<◌, ◌≤◌, min, true, false, cond, nat_lt, List, [], ◌∷◌, length, get_or, take, slice_index, refl, sym, ap, subst, mod-lt, add-one, arith}
use Rattle.std.specs.Prelude.{Contains, sum, All}
use Rattle.std.proofs.lemmas.Bool.{ltb-true, ltb-false, cases_lt}
use Rattle.std.proofs.lemmas.List.{take_all}
use Rattle.std.proofs.lemmas.List.Elements.{All-get_or}
use Rattle.std.proofs.lemmas.List.Sums.{sum_by_more, sum_by-le, get_or-le-sum_by}
use Rattle.std.proofs.lemmas.Nat.{div-add-mod', mod-mul-add}
use Rattle.std.proofs.Math.Nat.{mod-eq_of_lt, add-mod_right}
use Rattle.vh_cut.specs.Cut.{IsPattern, pieces_from, pieces_of}
use Rattle.vh_legal.specs.Blocks.{starts_of, IsAtBlock, IsTurn}

-- the sizes before number k, over and over
abbrev pub begin : List ℕ → ℕ → ℕ
begin pattern zero = 0
begin pattern (suc k) = begin pattern k + slice_index pattern (k % length pattern)

some_size : (pattern : List ℕ) (k : ℕ) → IsPattern pattern → 1 ≤ slice_index pattern (k % length pattern)
some_size pattern k are = (All-get_or (λ size. (1 ≤ size) × (size ≤ 8192)) pattern (k % length pattern) 0 (mod-lt k are.some) are.sizes).0

begin_le : (pattern : List ℕ) (k j : ℕ) → k ≤ j → begin pattern k ≤ begin pattern j
begin_le pattern k zero le = let none : k ≡ zero = omega (arith, le) in subst (λ n. begin pattern n ≤ begin pattern zero) (sym none) (omega arith)
begin_le pattern k (suc j) le = elim (cases_lt k (suc j)) [
  | inl before ↦ let rest = begin_le pattern k j (omega (arith, before)) in omega (arith, rest)
  | inr past ↦ let same : k ≡ suc j = omega (arith, le, past) in subst (λ n. begin pattern n ≤ begin pattern (suc j)) (sym same) (omega arith)
]

pub contains_cons : (x : ℕ) (xs : List ℕ) (s : ℕ) → Contains (x ∷ xs) s → (x ≡ s) ⊎ Contains xs s
contains_cons x xs s has = at has.0 has.1 has.2
  where
    at : (k : ℕ) → k < length (x ∷ xs) → get_or (x ∷ xs) k s ≡ s → (x ≡ s) ⊎ Contains xs s
    at zero within is = inl is
    at (suc k) within is = inr (k, omega (arith, within), is)

contains_later : (x : ℕ) (xs : List ℕ) (s : ℕ) → Contains xs s → Contains (x ∷ xs) s
contains_later x xs s has = (suc has.0, omega (arith, has.1), has.2)

-- a start is where some size begins, and before the end
starts_are : (most samples : ℕ) (pattern : List ℕ) (k at s : ℕ) → (at < samples → at ≡ begin pattern k) → Contains (starts_of (pieces_from most samples pattern [] k at)) s → (j : ℕ) × (begin pattern j ≡ s) × (s < samples)
starts_are zero samples pattern k at s begins has = absurd (omega (arith, has.1))
starts_are (suc most) samples pattern k at s begins has =
    let size = slice_index pattern (k % length pattern) in
    let here = min size (samples - at) in
    elim (nat_lt at samples) as (λ t. nat_lt at samples ≡ t → Contains (starts_of (cond t (record { start = at; length = here } ∷ pieces_from most samples pattern [] (k + 1) (at + here)) [])) s → (j : ℕ) × (begin pattern j ≡ s) × (s < samples)) [
      | true ↦ λ test found.
          let within = ltb-true at samples test in
          let same = begins within in
          elim (contains_cons at (starts_of (pieces_from most samples pattern [] (k + 1) (at + here))) s found) [
            | inl is ↦ (k, sym same ∙ is, subst (λ n. n < samples) is within)
            | inr more ↦
                let next : begin pattern (k + 1) ≡ begin pattern k + size = ap (begin pattern) (add-one k) in
                starts_are most samples pattern (k + 1) (at + here) s (λ later. omega (arith, later, same, next)) more
          ]
      | false ↦ λ test found. absurd (omega (arith, found.1))
    ] refl has

-- and each that begins before the end is a start
start_is : (most samples : ℕ) (pattern : List ℕ) (k j : ℕ) → IsPattern pattern → k ≤ j → begin pattern j < samples → samples - begin pattern k ≤ most → Contains (starts_of (pieces_from most samples pattern [] k (begin pattern k))) (begin pattern j)
start_is zero samples pattern k j are from within few = let le = begin_le pattern k j from in absurd (omega (arith, le, within, few))
start_is (suc most) samples pattern k j are from within few =
    let at = begin pattern k in
    let size = slice_index pattern (k % length pattern) in
    let here = min size (samples - at) in
    let le : at ≤ begin pattern j = begin_le pattern k j from in
    let some : 1 ≤ size = some_size pattern k are in
    elim (nat_lt at samples) as (λ t. nat_lt at samples ≡ t → Contains (starts_of (cond t (record { start = at; length = here } ∷ pieces_from most samples pattern [] (k + 1) (at + here)) [])) (begin pattern j)) [
      | true ↦ λ test. elim (cases_lt k j) [
        | inl before ↦
            let next : begin pattern (k + 1) ≡ at + size = ap (begin pattern) (add-one k) in
            let reach = begin_le pattern (k + 1) j (omega (arith, before)) in
            let whole : begin pattern (k + 1) ≡ at + here = omega (arith, reach, next, within) in
            let rest = start_is most samples pattern (k + 1) j are (omega (arith, before)) within (omega (arith, few, next, some)) in
            contains_later at (starts_of (pieces_from most samples pattern [] (k + 1) (at + here))) (begin pattern j)
            (subst (λ n. Contains (starts_of (pieces_from most samples pattern [] (k + 1) n)) (begin pattern j)) whole rest)
        | inr past ↦ let same : k ≡ j = omega (arith, from, past) in (0, omega arith, ap (begin pattern) same)
      ]
      | false ↦ λ test. let past = ltb-false at samples test in absurd (omega (arith, past, le, within))
    ] refl

begin_take : (pattern : List ℕ) (k : ℕ) → k ≤ length pattern → begin pattern k ≡ sum (take k pattern)
begin_take pattern zero within = refl
begin_take pattern (suc k) within =
    let before = begin_take pattern k (omega (arith, within)) in
    let turn : k % length pattern ≡ k = mod-eq_of_lt (omega (arith, within)) in
    let size : slice_index pattern (k % length pattern) ≡ get_or pattern k 0 = ap (λ n. slice_index pattern n) turn in
    let more : sum (take (k + 1) pattern) ≡ sum (take k pattern) + get_or pattern k 0 = sum_by_more (λ (x : ℕ). x) pattern k 0 (omega (arith, within)) in
    let next : sum (take (k + 1) pattern) ≡ sum (take (suc k) pattern) = ap (λ n. sum (take n pattern)) (add-one k) in
    omega (arith, before, size, more, next)

whole_turn : (pattern : List ℕ) → begin pattern (length pattern) ≡ sum pattern
whole_turn pattern = begin_take pattern (length pattern) (omega arith) ∙ ap sum (take_all (length pattern) pattern (omega arith))

begin_round : (pattern : List ℕ) (k : ℕ) → begin pattern (k + length pattern) ≡ begin pattern k + sum pattern
begin_round pattern zero =
    let first : begin pattern (zero + length pattern) ≡ begin pattern (length pattern) = ap (begin pattern) (let e : zero + length pattern ≡ length pattern = omega arith in e) in
    omega (arith, first, whole_turn pattern)
begin_round pattern (suc k) =
    let before = begin_round pattern k in
    let next : begin pattern (suc k + length pattern) ≡ begin pattern (k + length pattern) + slice_index pattern ((k + length pattern) % length pattern) =
    ap (begin pattern) (let e : suc k + length pattern ≡ suc (k + length pattern) = omega arith in e) in
    let size : slice_index pattern ((k + length pattern) % length pattern) ≡ slice_index pattern (k % length pattern) = ap (λ n. slice_index pattern n) (add-mod_right k (length pattern)) in
    omega (arith, before, next, size)

begin_turns : (pattern : List ℕ) (q j : ℕ) → begin pattern (q * length pattern + j) ≡ q * sum pattern + begin pattern j
begin_turns pattern zero j =
    let first : begin pattern (zero * length pattern + j) ≡ begin pattern j = ap (begin pattern) (let e : zero * length pattern + j ≡ j = omega arith in e) in
    omega (arith, first)
begin_turns pattern (suc q) j =
    let before = begin_turns pattern q j in
    let round = begin_round pattern (q * length pattern + j) in
    let next : begin pattern (suc q * length pattern + j) ≡ begin pattern (q * length pattern + j + length pattern) = ap (begin pattern) (let e : suc q * length pattern + j ≡ q * length pattern + j + length pattern = omega arith in e) in
    omega (arith, before, round, next)

-- where a sample is within its turn says whether a block begins there
pub at_turn : (samples : ℕ) (pattern : List ℕ) (s : ℕ) → IsPattern pattern → s < samples → IsTurn pattern (s % sum pattern) → IsAtBlock samples pattern s
at_turn samples pattern s are within turn =
    let q = s / sum pattern in
    let k = turn.0 in
    let first : begin pattern k ≡ s % sum pattern = begin_take pattern k (omega (arith, turn.1)) ∙ turn.2 in
    let whole : q * sum pattern + s % sum pattern ≡ s = div-add-mod' s (sum pattern) in
    let is : begin pattern (q * length pattern + k) ≡ s = begin_turns pattern q k ∙ ap (λ n. q * sum pattern + n) first ∙ whole in
    inr (subst (λ n. Contains (starts_of (pieces_of samples pattern [])) n) is
    (start_is samples samples pattern 0 (q * length pattern + k) are (omega arith) (subst (λ n. n < samples) (sym is) within) (omega arith)))

pub turn_at : (samples : ℕ) (pattern : List ℕ) (s : ℕ) → IsPattern pattern → s < samples → IsAtBlock samples pattern s → IsTurn pattern (s % sum pattern)
turn_at samples pattern s are within at = elim at [
  | inl same ↦ absurd (omega (arith, same, within))
  | inr has ↦
      let found = starts_are samples samples pattern 0 0 s (λ _. refl) has in
      let j = found.0 in
      let r = j % length pattern in
      let least : r < length pattern = mod-lt j are.some in
      let whole : begin pattern (j / length pattern * length pattern + r) ≡ begin pattern j = ap (begin pattern) (div-add-mod' j (length pattern)) in
      let is : s ≡ j / length pattern * sum pattern + begin pattern r = sym found.1 ∙ sym whole ∙ begin_turns pattern (j / length pattern) r in
      let next = begin_le pattern (suc r) (length pattern) (omega (arith, least)) in
      let some = some_size pattern r are in
      let small : begin pattern r < sum pattern = omega (arith, next, some, whole_turn pattern) in
      let rest : s % sum pattern ≡ begin pattern r = ap (λ n. n % sum pattern) is ∙ mod-mul-add (j / length pattern) (sum pattern) (begin pattern r) small in
      (r, least, sym (begin_take pattern r (omega (arith, least))) ∙ sym rest)
]

-- past the end there is none but the length
pub past_end : (samples : ℕ) (pattern : List ℕ) (s : ℕ) → samples ≤ s → IsAtBlock samples pattern s → s ≡ samples
past_end samples pattern s past at = elim at [
  | inl same ↦ same
  | inr has ↦ let found = starts_are samples samples pattern 0 0 s (λ _. refl) has in absurd (omega (arith, past, found.2))
]

-- no block begins behind the end
pub at_most : (samples : ℕ) (pattern : List ℕ) (s : ℕ) → IsAtBlock samples pattern s → s ≤ samples
at_most samples pattern s at = elim at [
  | inl same ↦ omega (arith, same)
  | inr has ↦ let found = starts_are samples samples pattern 0 0 s (λ _. refl) has in omega (arith, found.2)
]

-- a turn has a sample or more, and fits
pub short_turn : (pattern : List ℕ) → IsPattern pattern → (1 ≤ sum pattern) × (sum pattern ≤ 131072)
short_turn pattern are =
    let first = All-get_or (λ size. (1 ≤ size) × (size ≤ 8192)) pattern 0 0 (omega (arith, are.some)) are.sizes in
    let within = get_or-le-sum_by (λ (x : ℕ). x) pattern 0 0 (omega (arith, are.some)) in
    let most = sum_by-le (λ (x : ℕ). x) 8192 pattern (λ k d lt. (are.sizes k d lt).1) in
    (omega (arith, first.0, within), omega (arith, most, are.most))

-- Which line a sample stands on.
use Rattle.std.proofs.Common.{◌≡◌, ◌≢◌, ℕ, zero, suc, ◌+◌, ◌-◌, ◌<◌, ◌≤◌, List, [], ◌∷◌, length, get_or, true, false, nat_lt, ap, ◌∙◌, refl, arith}
use Rattle.std.proofs.lemmas.Bool.{lt-ltb, le-ltb, ltb-true, ltb-false}
use Rattle.std.proofs.lemmas.List.{get_or_default}
use Rattle.std.specs.List.Sorted.{IsNonDecreasingBy}
use Rattle.vh_lane.specs.Values.{AreBreaks, ArePassed, AreReached, on_line, line_at}

pub line_first : (breaks : List (ℕ × ℕ)) (s : ℕ) (d : ℕ × ℕ) → 1 ≤ length breaks → s < (get_or breaks 0 d).0 → line_at breaks s ≡ (get_or breaks 0 d).1
line_first [] s d some ahead = absurd (omega arith)
line_first (last ∷ []) s d some ahead = refl
line_first (from ∷ to ∷ more) s d some ahead = rw (lt-ltb s from.0 ahead) refl

pub line_last : (breaks : List (ℕ × ℕ)) (s n : ℕ) (d : ℕ × ℕ) → suc n ≡ length breaks → ((i : ℕ) (e : ℕ × ℕ) → i < length breaks → (get_or breaks i e).0 ≤ s) → line_at breaks s ≡ (get_or breaks n d).1
line_last [] s n d last passed = absurd (omega (arith, last))
line_last (from ∷ []) s zero d last passed = refl
line_last (from ∷ []) s (suc n) d last passed = absurd (omega (arith, last))
line_last (from ∷ to ∷ more) s zero d last passed = absurd (omega (arith, last))
line_last (from ∷ to ∷ more) s (suc n) d last passed =
    let first = passed 0 d (omega arith) in
    let second = passed 1 d (omega arith) in
    rw (le-ltb s from.0 first) (rw (le-ltb s to.0 second) (line_last (to ∷ more) s n d (omega (arith, last)) (λ i e within. passed (suc i) e (omega arith))))

pub line_between : (breaks : List (ℕ × ℕ)) (s n : ℕ) (d : ℕ × ℕ) → suc n < length breaks → ((i : ℕ) (e : ℕ × ℕ) → i ≤ n → (get_or breaks i e).0 ≤ s) → s < (get_or breaks (suc n) d).0 → line_at breaks s ≡ on_line (get_or breaks n d) (get_or breaks (suc n) d) s
line_between [] s n d within passed ahead = absurd (omega arith)
line_between (from ∷ []) s n d within passed ahead = absurd (omega arith)
line_between (from ∷ to ∷ more) s zero d within passed ahead =
    let first = passed 0 d (omega arith) in
    rw (le-ltb s from.0 first) (rw (lt-ltb s to.0 ahead) refl)
line_between (from ∷ to ∷ more) s (suc n) d within passed ahead =
    let first = passed 0 d (omega arith) in
    let second = passed 1 d (omega arith) in
    rw (le-ltb s from.0 first) (rw (le-ltb s to.0 second) (line_between (to ∷ more) s n d (omega arith) (λ i e le. passed (suc i) e (omega arith)) ahead))

pub line_end : (breaks : List (ℕ × ℕ)) (passed s : ℕ) (d : ℕ × ℕ) → ArePassed breaks passed s → passed ≡ length breaks → 1 ≤ passed → line_at breaks s ≡ (get_or breaks (passed - 1) d).1
line_end breaks passed s d are all some = line_last breaks s (passed - 1) d (omega (arith, all)) (λ i e within. are.before i e (omega (arith, all)))

pub line_inner : (breaks : List (ℕ × ℕ)) (passed s : ℕ) (d : ℕ × ℕ) → ArePassed breaks passed s → passed < length breaks → 1 ≤ passed → line_at breaks s ≡ on_line (get_or breaks (passed - 1) d) (get_or breaks passed d) s
line_inner breaks passed s d are more some =
    let next : suc (passed - 1) ≡ passed = omega (arith, some) in
    line_between breaks s (passed - 1) d (omega (arith, some, more)) (λ i e le. are.before i e (omega (arith, some))) (are.after (suc (passed - 1)) d (omega (arith, some)) (omega (arith, some, more)))
    ∙ ap (λ n. on_line (get_or breaks (passed - 1) d) (get_or breaks n d) s) next

same_place : (breaks : List (ℕ × ℕ)) (i : ℕ) (d e : ℕ × ℕ) → i < length breaks → (get_or breaks i d).0 ≡ (get_or breaks i e).0
same_place breaks i d e within = ap (λ (point : ℕ × ℕ). point.0) (get_or_default breaks i d e within)

before_or_here : (breaks : List (ℕ × ℕ)) (passed s : ℕ) (d : ℕ × ℕ) → AreReached breaks passed s → passed < length breaks → (get_or breaks passed d).0 ≡ s
    → (i : ℕ) (e : ℕ × ℕ) → i < passed + 1 → (get_or breaks i e).0 ≤ s
before_or_here breaks passed s d are more here i e lt =
    elim (nat_lt i passed) as (λ t. nat_lt i passed ≡ t → (get_or breaks i e).0 ≤ s) [
      | true ↦ λ test. are.before i e (ltb-true i passed test)
      | false ↦ λ test.
          let last : i ≡ passed = omega (arith, ltb-false i passed test, lt) in
          let same : (get_or breaks i e).0 ≡ s = ap (λ n. (get_or breaks n e).0) last ∙ same_place breaks passed e d more ∙ here in
          omega (arith, same)
    ] refl

later : (breaks : List (ℕ × ℕ)) (passed s : ℕ) (d : ℕ × ℕ) → AreBreaks breaks → AreReached breaks passed s → passed < length breaks → (get_or breaks passed d).0 ≢ s
    → (i : ℕ) (e : ℕ × ℕ) → passed ≤ i → i < length breaks → s < (get_or breaks i e).0
later breaks passed s d rising are more not_here i e le within =
    let same_one = same_place breaks passed d e more in
    let other : (get_or breaks passed e).0 ≢ s = λ is. not_here (same_one ∙ is) in
    let first = are.after passed e (omega arith) more in
    elim (nat_lt passed i) as (λ t. nat_lt passed i ≡ t → s < (get_or breaks i e).0) [
      | true ↦ λ test. let rise = rising.rise passed i e (ltb-true passed i test) within in omega (arith, rise, first)
      | false ↦ λ test.
          let last : passed ≡ i = omega (arith, ltb-false passed i test, le) in
          let same : (get_or breaks passed e).0 ≡ (get_or breaks i e).0 = ap (λ n. (get_or breaks n e).0) last in
          omega (arith, same, first, other)
    ] refl

-- a breakpoint at this sample is passed, and no other
pub pass_one : (breaks : List (ℕ × ℕ)) (passed s : ℕ) (d : ℕ × ℕ) → AreBreaks breaks → AreReached breaks passed s → passed < length breaks → (get_or breaks passed d).0 ≡ s → ArePassed breaks (passed + 1) s
pass_one breaks passed s d rising are more here = record {
  most = omega arith;
  before = λ i e lt. before_or_here breaks passed s d are more here i e lt;
  after = λ i e le within. let later = rising.rise passed i d (omega arith) within in omega (arith, later, here, same_place breaks i d e within);
}

pub pass_end : (breaks : List (ℕ × ℕ)) (passed s : ℕ) → AreReached breaks passed s → passed ≡ length breaks → ArePassed breaks passed s
pass_end breaks passed s are all = record {
  most = are.most;
  before = are.before;
  after = λ i e le within. absurd (omega (arith, all));
}

pub pass_other : (breaks : List (ℕ × ℕ)) (passed s : ℕ) (d : ℕ × ℕ) → AreBreaks breaks → AreReached breaks passed s → passed < length breaks → (get_or breaks passed d).0 ≢ s → ArePassed breaks passed s
pass_other breaks passed s d rising are more other = record {
  most = are.most;
  before = are.before;
  after = λ i e le within. later breaks passed s d rising are more other i e le within;
}

-- what is passed at a sample is reached at the next
pub reached_next : (breaks : List (ℕ × ℕ)) (passed s : ℕ) → ArePassed breaks passed s → AreReached breaks passed (s + 1)
reached_next breaks passed s are = record {
  most = are.most;
  before = λ i d lt. let was = are.before i d lt in omega (arith, was);
  after = λ i d le within. let ahead = are.after i d le within in omega (arith, ahead);
}

pub no_fall : (breaks : List (ℕ × ℕ)) → AreBreaks breaks → IsNonDecreasingBy (λ (p : ℕ × ℕ). p.0) breaks
no_fall breaks rising i j d le within =
    elim (nat_lt i j) as (λ t. nat_lt i j ≡ t → (get_or breaks i d).0 ≤ (get_or breaks j d).0) [
      | true ↦ λ test. let rise = rising.rise i j d (ltb-true i j test) within in omega (arith, rise)
      | false ↦ λ test.
          let same : i ≡ j = omega (arith, ltb-false i j test, le) in
          let place : (get_or breaks i d).0 ≡ (get_or breaks j d).0 = ap (λ n. (get_or breaks n d).0) same in
          omega (arith, place)
    ] refl

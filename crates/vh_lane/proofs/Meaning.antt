-- What points that are sent mean.
use Rattle.std.proofs.Common.{◌≡◌, ◌≢◌, ℕ, zero, suc, ◌+◌, ◌<◌, ◌≤◌, true, false, cond, leb, nat_eq, List, [], ◌∷◌, ◌++◌, length, get_or, refl, sym, ap, subst, ◌∙◌, inl, inr, arith}
use Rattle.std.proofs.lemmas.Bool.{cases_lt, eqb-true, eqb-false}
use Rattle.std.proofs.lemmas.Bool.Decides.{nat_tests}
use Rattle.std.proofs.lemmas.List.{get_or_append_left, length-append}
use Rattle.std.proofs.Math.Seq.{get_or-append_seam}
use Rattle.vh_points.specs.Values.{value_at, value_behind}
use Rattle.vh_lane.specs.Changes.{before, changes_of}
use Rattle.vh_lane.specs.Laws.{AreMeant, PointsMeanValues}

le_no : (a b : ℕ) → b < a → leb a b ≡ false
le_no a b h = grind (arith, nat_tests)

le_yes : (a b : ℕ) → a ≤ b → leb a b ≡ true
le_yes a b h = grind (arith, nat_tests)

-- one point more
value_at_more : (points : List (ℕ × ℕ)) (last offset : ℕ) (p : ℕ × ℕ) → value_at last (points ++ p ∷ []) offset ≡ cond (leb p.0 offset) p.1 (value_at last points offset)
value_at_more [] last offset p = refl
value_at_more (q ∷ qs) last offset p = value_at_more qs (cond (leb q.0 offset) q.1 last) offset p

value_behind_more : (points : List (ℕ × ℕ)) (last : ℕ) (p : ℕ × ℕ) → value_behind last (points ++ p ∷ []) ≡ p.1
value_behind_more [] last p = refl
value_behind_more (q ∷ qs) last p = value_behind_more qs q.1 p

-- no point: the value stays
module _ (value : ℕ → ℕ) (from last n : ℕ) (points : List (ℕ × ℕ)) (are : AreMeant value from last n points) where
  meant_same : value (from + n) ≡ before value from last n → AreMeant value from last (suc n) points
  meant_same same = record {
    at = λ offset lt. elim (cases_lt offset n) [
      | inl below ↦ are.at offset below
      | inr top ↦
          let here : n ≡ offset = omega arith in
          are.after offset top ∙ sym same ∙ ap (λ k. value (from + k)) here
    ];
    after = λ offset le. are.after offset (omega arith) ∙ sym same;
    behind = are.behind ∙ sym same;
    few = omega (arith, are.few);
    changes = λ j d lt. let change = are.changes j d lt in (omega (arith, change.0), change.1);
  }

  -- a point where the value moves
  meant_more : value (from + n) ≢ before value from last n → AreMeant value from last (suc n) (points ++ (n, value (from + n)) ∷ [])
  meant_more moves =
      let v = value (from + n) in
      let size = length-append points ((n, v) ∷ []) in
      record {
        at = λ offset lt. value_at_more points last offset (n, v) ∙ elim (cases_lt offset n) [
          | inl below ↦ rw (le_no n offset below) (are.at offset below)
          | inr top ↦
              let here : n ≡ offset = omega arith in
              rw (le_yes n offset top) (ap (λ k. value (from + k)) here)
        ];
        after = λ offset le. value_at_more points last offset (n, v) ∙ (let below : n ≤ offset = omega arith in rw (le_yes n offset below) refl);
        behind = value_behind_more points last (n, v);
        few = omega (arith, are.few, size);
        changes = λ j d lt. elim (cases_lt j (length points)) [
          | inl below ↦
              let change = are.changes j d below in
              subst (λ (p : ℕ × ℕ). (p.0 < suc n) × (value (from + p.0) ≢ before value from last p.0)) (sym (get_or_append_left points ((n, v) ∷ []) d j below)) (omega (arith, change.0), change.1)
          | inr top ↦
              let place : j ≡ length points = omega (arith, size) in
              let point : get_or (points ++ (n, v) ∷ []) j d ≡ (n, v) = ap (λ i. get_or (points ++ (n, v) ∷ []) i d) place ∙ get_or-append_seam points (n, v) [] d in
              subst (λ (p : ℕ × ℕ). (p.0 < suc n) × (value (from + p.0) ≢ before value from last p.0)) (sym point) (omega arith, moves)
        ];
      }

pub law_points_mean_values : PointsMeanValues
law_points_mean_values value from last zero = record {
  at = λ offset lt. absurd (omega arith);
  after = λ offset le. refl;
  behind = refl;
  few = omega arith;
  changes = λ j d lt. absurd (omega arith);
}
law_points_mean_values value from last (suc n) =
    let points = changes_of value from last n in
    let are = law_points_mean_values value from last n in
    elim (nat_eq (value (from + n)) (before value from last n)) as (λ t. nat_eq (value (from + n)) (before value from last n) ≡ t → AreMeant value from last (suc n) (cond t points (points ++ (n, value (from + n)) ∷ []))) [
      | true ↦ λ test. meant_same value from last n points are (eqb-true (value (from + n)) (before value from last n) test)
      | false ↦ λ test. meant_more value from last n points are (eqb-false (value (from + n)) (before value from last n) test)
    ] refl

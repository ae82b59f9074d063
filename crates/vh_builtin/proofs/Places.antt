-- A value that is set at a place.
use Rattle.std.proofs.Common.{◌≡◌, ◌≢◌, ℕ, zero, suc, ◌<◌, ◌≤◌, ◌^◌, true, false, nat_eq, ◌&&◌, ◌||◌, List, [], ◌∷◌, All, length, get_or, set, Some, None, cond, refl, sym, ap, subst, ◌∙◌, arith}
use Rattle.std.proofs.lemmas.Bool.{eq-eqb, ne_eqb, le-leb, lt-leb, true≢false}
use Rattle.std.proofs.lemmas.List.{length-set}
use Rattle.vh_plugin.specs.Class.{Param, AreValues}
use Rattle.vh_plugin.specs.Controls.{has_id, value_in, with_value, normalized_to}
use Rattle.vh_plugin.specs.Quiet.{ids_of}
use Rattle.vh_builtin.specs.ByteLaws.{all_rest, all_more}
use Rattle.vh_builtin.specs.Places.{IsPlaceOf}

has_place : (params : List Param) (id place : ℕ) → place < length (ids_of params) → get_or (ids_of params) place 0 ≡ id → has_id params id ≡ true
has_place [] id place lt is = absurd (omega (arith, lt))
has_place (param ∷ params) id zero lt is = rw (eq-eqb param.id id is) refl
has_place (param ∷ params) id (suc place) lt is =
    elim (nat_eq param.id id) as (λ t. (t || has_id params id) ≡ true) [
      | true ↦ refl
      | false ↦ has_place params id place (omega (arith, lt)) is
    ]

lacks_place : (params : List Param) (id : ℕ) → ((place : ℕ) → place < length (ids_of params) → get_or (ids_of params) place 0 ≢ id) → has_id params id ≡ false
lacks_place [] id none = refl
lacks_place (param ∷ params) id none =
    rw (ne_eqb param.id id (none 0 (omega arith))) (lacks_place params id (λ place lt. none (suc place) (omega (arith, lt))))

with_place : (params : List Param) (values : List ℕ) (id place value : ℕ) → length values ≡ length params → place < length (ids_of params) → get_or (ids_of params) place 0 ≡ id
    → ((before : ℕ) → before < place → get_or (ids_of params) before 0 ≢ id) → set values place value ≡ with_value params values id value
with_place [] values id place value long lt is first = absurd (omega (arith, lt))
with_place (param ∷ params) [] id place value long lt is first = absurd (omega (arith, long))
with_place (param ∷ params) (old ∷ values) id zero value long lt is first = rw (eq-eqb param.id id is) refl
with_place (param ∷ params) (old ∷ values) id (suc place) value long lt is first =
    rw (ne_eqb param.id id (first 0 (omega arith)))
    (ap (λ (vs : List ℕ). old ∷ vs) (with_place params values id place value (omega (arith, long)) (omega (arith, lt)) is (λ before le. first (suc before) (omega (arith, le)))))

value_place : (params : List Param) (values : List ℕ) (id place : ℕ) → length values ≡ length params → place < length (ids_of params) → get_or (ids_of params) place 0 ≡ id
    → ((before : ℕ) → before < place → get_or (ids_of params) before 0 ≢ id) → get_or values place 0 ≡ value_in params values id
value_place [] values id place long lt is first = absurd (omega (arith, lt))
value_place (param ∷ params) [] id place long lt is first = absurd (omega (arith, long))
value_place (param ∷ params) (old ∷ values) id zero long lt is first = rw (eq-eqb param.id id is) refl
value_place (param ∷ params) (old ∷ values) id (suc place) long lt is first =
    rw (ne_eqb param.id id (first 0 (omega arith))) (value_place params values id place (omega (arith, long)) (omega (arith, lt)) is (λ before le. first (suc before) (omega (arith, le))))

-- a value that is set at the place of an id, at none, or that passes 1.0
pub set_there : (params : List Param) (values ids : List ℕ) (id place value : ℕ) → ids ≡ ids_of params → IsPlaceOf ids id (Some place) → AreValues params values → value ≤ 2 ^ 24 → set values place value ≡ normalized_to params values id value
set_there params values ids id place value is there are le =
    let at = subst (λ (list : List ℕ). IsPlaceOf list id (Some place)) is there in
    rw (has_place params id place at.0 at.1) (rw (le-leb value (2 ^ 24) le) (with_place params values id place value are.each at.0 at.1 at.2))

pub set_nowhere : (params : List Param) (values ids : List ℕ) (id value : ℕ) → ids ≡ ids_of params → IsPlaceOf ids id None → values ≡ normalized_to params values id value
set_nowhere params values ids id value is none = rw (lacks_place params id (subst (λ (list : List ℕ). IsPlaceOf list id None) is none)) refl

pub set_over : (params : List Param) (values : List ℕ) (id value : ℕ) → 2 ^ 24 < value → values ≡ normalized_to params values id value
set_over params values id value over =
    rw (lt-leb value (2 ^ 24) over)
    (elim (has_id params id) as (λ t. values ≡ cond (t && false) (with_value params values id value) values) [
      | true ↦ refl
      | false ↦ refl
    ])

pub read_there : (params : List Param) (values ids : List ℕ) (id place : ℕ) → ids ≡ ids_of params → IsPlaceOf ids id (Some place) → AreValues params values → get_or values place 0 ≡ value_in params values id
read_there params values ids id place is there are =
    let at = subst (λ (list : List ℕ). IsPlaceOf list id (Some place)) is there in
    value_place params values id place are.each at.0 at.1 at.2

pub some_place : (params : List Param) (ids : List ℕ) (id : ℕ) → ids ≡ ids_of params → IsPlaceOf ids id None → has_id params id ≡ true → ⊥
some_place params ids id is none has = true≢false (sym has ∙ lacks_place params id (subst (λ (list : List ℕ). IsPlaceOf list id None) is none))

set_within : (values : List ℕ) (place value most : ℕ) → All (λ n. n ≤ most) values → value ≤ most → All (λ n. n ≤ most) (set values place value)
set_within [] place value most are le = are
set_within (old ∷ values) zero value most are le = all_more value values most le (all_rest old values most are)
set_within (old ∷ values) (suc place) value most are le = all_more old (set values place value) most (are 0 0 (omega arith)) (set_within values place value most (all_rest old values most are) le)

-- there is still one value for each parameter, none above 1.0
pub set_valued : (params : List Param) (values : List ℕ) (place value : ℕ) → AreValues params values → value ≤ 2 ^ 24 → AreValues params (set values place value)
set_valued params values place value are le = record { each = length-set values place value ∙ are.each; within = set_within values place value (2 ^ 24) are.within le }

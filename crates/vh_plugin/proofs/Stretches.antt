-- Values that go on from point to point.
use Rattle.std.proofs.Common.{◌≡◌, ◌≢◌, ℕ, ◌+◌, ◌-◌, ◌<◌, ◌≤◌, true, false, cond, nat_lt, nat_eq, All, List, [], ◌∷◌, zero, suc, length, replicate, take, drop, get_or, set, min, refl, sym, ap, subst, ◌∙◌, arith}
use Rattle.std.proofs.lemmas.Bool.{ltb-true, ltb-false, le-leb, lt-leb, eqb-true, eq-eqb, true≢false}
use Rattle.std.proofs.lemmas.List.{drop_more, drop_all, get_or_default, get_or-drop, length-drop, get_or-set_same, get_or-set_other, length-set, length-take-le, length-replicate, length-map}
use Rattle.vh_points.specs.Queues.{Queue, IsRising}
use Rattle.vh_plugin.specs.Class.{Param}
use Rattle.vh_plugin.specs.Blocks.{values_at, values_behind}
use Rattle.vh_plugin.specs.Quiet.{ids_of, GoesOn, IsMoved, AreMoved, Stands, AllStand, AreBehind}
use Rattle.vh_points.specs.Values.{value_at, value_behind, points_of}

goes_on_here : (points : List (ℕ × ℕ)) (value from : ℕ) → GoesOn points value points value from
goes_on_here points value from = record { later = λ offset le. refl; behind = refl }

-- a value goes on behind a point that is reached
pub goes_on_point : (points start : List (ℕ × ℕ)) (before value from j : ℕ) (point : ℕ × ℕ) → GoesOn start before (drop j points) value from → j < length points → point ≡ get_or points j (0, 0) → point.0 ≤ from
    → GoesOn start before (drop (j + 1) points) point.1 from
goes_on_point points start before value from j point goes within here stands =
    let first : drop j points ≡ point ∷ drop (j + 1) points = drop_more points j (0, 0) within ∙ ap (λ (p : ℕ × ℕ). p ∷ drop (j + 1) points) (sym here) in
    record {
      later = λ offset le. sym (ap (λ (ps : List (ℕ × ℕ)). value_at value ps offset) first ∙ ap (λ t. value_at (cond t point.1 value) (drop (j + 1) points) offset) (le-leb point.0 offset (omega (arith, stands, le)))) ∙ goes.later offset le;
      behind = sym (ap (λ (ps : List (ℕ × ℕ)). value_behind value ps) first) ∙ goes.behind;
    }

goes_on_later : (points rest : List (ℕ × ℕ)) (before value from to : ℕ) → GoesOn points before rest value from → from ≤ to → GoesOn points before rest value to
goes_on_later points rest before value from to goes le = record { later = λ offset late. goes.later offset (omega (arith, le, late)); behind = goes.behind }

goes_on_through : (points middle rest : List (ℕ × ℕ)) (before between value from : ℕ) → GoesOn points before middle between from → GoesOn middle between rest value from → GoesOn points before rest value from
goes_on_through points middle rest before between value from first second = record {
  later = λ offset le. second.later offset le ∙ first.later offset le;
  behind = second.behind ∙ first.behind;
}

-- offsets rise from any point to any later one
rises_by : (points : List (ℕ × ℕ)) → IsRising points → (j k : ℕ) (d : ℕ × ℕ) → j + k < length points → (get_or points j d).0 ≤ (get_or points (j + k) d).0
rises_by points rising j zero d within = let e : j ≡ j + 0 = omega arith in subst (λ i. (get_or points j d).0 ≤ (get_or points i d).0) e (omega arith)
rises_by points rising j (suc k) d within =
    let rest = rises_by points rising j k d (omega (arith, within)) in
    let next = rising.rises (j + k) d (omega (arith, within)) in
    let e : (j + k) + 1 ≡ j + suc k = omega arith in
    subst (λ i. (get_or points j d).0 ≤ (get_or points i d).0) e (omega (arith, rest, next))

-- a value stands where all points are ahead
all_ahead : (points : List (ℕ × ℕ)) (value place : ℕ) → ((k : ℕ) (d : ℕ × ℕ) → k < length points → place < (get_or points k d).0) → value_at value points place ≡ value
all_ahead [] value place ahead = refl
all_ahead (point ∷ points) value place ahead =
    rw (lt-leb point.0 place (ahead 0 point (omega arith))) (all_ahead points value place (λ k d within. ahead (suc k) d (omega (arith, within))))

pub still_until : (points : List (ℕ × ℕ)) (j value place : ℕ) (point : ℕ × ℕ) → IsRising points → j < length points → point ≡ get_or points j (0, 0) → place < point.0 → value_at value (drop j points) place ≡ value
still_until points j value place point rising within here early =
    all_ahead (drop j points) value place (λ k d inside.
    let far : j + k < length points = omega (arith, inside, length-drop j points) in
    let le = rises_by points rising j k d far in
    let first : (get_or points j d).0 ≡ point.0 = ap (λ (p : ℕ × ℕ). p.0) (sym (here ∙ get_or_default points j (0, 0) d within)) in
    let there = ap (λ (p : ℕ × ℕ). p.0) (get_or-drop j points k d) in
    omega (arith, early, le, first, there))

-- where a value goes on to a new one that stands until `next`, it is moved
pub is_moved : (points : List (ℕ × ℕ)) (passed value from passed' value' next : ℕ) → GoesOn (drop passed points) value (drop passed' points) value' from
    → ((place : ℕ) → from ≤ place → place < next → value_at value' (drop passed' points) place ≡ value') → IsMoved points passed value from passed' value' next
is_moved points passed value from passed' value' next goes stands = record {
  goes_on = goes;
  still = λ place le lt. sym (goes.later place le) ∙ stands place le lt;
}

moved_sooner : (points : List (ℕ × ℕ)) (passed value from passed' value' next sooner : ℕ) → IsMoved points passed value from passed' value' next → sooner ≤ next → IsMoved points passed value from passed' value' sooner
moved_sooner points passed value from passed' value' next sooner is le = record { goes_on = is.goes_on; still = λ place late lt. is.still place late (omega (arith, lt, le)) }

-- the parameters before this one are moved, and the others are as they were
pub record AreMoving (ids : List ℕ) (queues : List Queue) (passed values nexts : List ℕ) (from i : ℕ) (passed' values' nexts' : List ℕ) (next : ℕ) : Type 0 where
  pub passed_long : length passed' ≡ length ids
  pub values_long : length values' ≡ length ids
  pub nexts_long : length nexts' ≡ length ids
  pub each : (k : ℕ) → k < i → IsMoved (points_of queues (get_or ids k 0)) (get_or passed k 0) (get_or values k 0) from (get_or passed' k 0) (get_or values' k 0) next
  pub stand : (k : ℕ) → k < i → Stands (points_of queues (get_or ids k 0)) (get_or passed' k 0) (get_or values' k 0) from (get_or nexts' k 0)
  pub others_passed : (k : ℕ) → i ≤ k → get_or passed' k 0 ≡ get_or passed k 0
  pub others_values : (k : ℕ) → i ≤ k → get_or values' k 0 ≡ get_or values k 0
  pub others_nexts : (k : ℕ) → i ≤ k → get_or nexts' k 0 ≡ get_or nexts k 0

differ : (i k : ℕ) → k < i → k ≢ i
differ i k lt same = absurd (omega (arith, lt, same))

-- a place of a list that was changed before it
kept : (xs ys : List ℕ) (i k x : ℕ) → ((k : ℕ) → i ≤ k → get_or ys k 0 ≡ get_or xs k 0) → i + 1 ≤ k → get_or (set ys i x) k 0 ≡ get_or xs k 0
kept xs ys i k x others le = get_or-set_other ys i k x 0 (λ same. differ k i (omega (arith, le)) (sym same)) ∙ others k (omega (arith, le))

pub moving_more : (ids : List ℕ) (queues : List Queue) (passed values nexts : List ℕ) (from i : ℕ) (passed' values' nexts' : List ℕ) (next count value sooner : ℕ)
    → AreMoving ids queues passed values nexts from i passed' values' nexts' next → i < length ids
    → IsMoved (points_of queues (get_or ids i 0)) (get_or passed' i 0) (get_or values' i 0) from count value sooner
    → Stands (points_of queues (get_or ids i 0)) count value from sooner
    → AreMoving ids queues passed values nexts from (i + 1) (set passed' i count) (set values' i value) (set nexts' i sooner) (min next sooner)
moving_more ids queues passed values nexts from i passed' values' nexts' next count value sooner are inside is stands = record {
  passed_long = length-set passed' i count ∙ are.passed_long;
  values_long = length-set values' i value ∙ are.values_long;
  nexts_long = length-set nexts' i sooner ∙ are.nexts_long;
  each = λ k lt. elim (nat_lt k i) as (λ t. nat_lt k i ≡ t → IsMoved (points_of queues (get_or ids k 0)) (get_or passed k 0) (get_or values k 0) from (get_or (set passed' i count) k 0) (get_or (set values' i value) k 0) (min next sooner)) [
    | true ↦ λ test.
        let other = differ i k (ltb-true k i test) in
        rw (get_or-set_other passed' i k count 0 other) (rw (get_or-set_other values' i k value 0 other) (moved_sooner _ _ _ _ _ _ _ _ (are.each k (ltb-true k i test)) (omega arith)))
    | false ↦ λ test.
        let here : i ≡ k = omega (arith, ltb-false k i test, lt) in
        subst (λ j. IsMoved (points_of queues (get_or ids j 0)) (get_or passed j 0) (get_or values j 0) from (get_or (set passed' i count) j 0) (get_or (set values' i value) j 0) (min next sooner)) here
        (rw (get_or-set_same passed' i count 0 (omega (arith, inside, are.passed_long))) (rw (get_or-set_same values' i value 0 (omega (arith, inside, are.values_long)))
        (rw (sym (are.others_passed i (omega arith))) (rw (sym (are.others_values i (omega arith))) (moved_sooner _ _ _ _ _ _ _ _ is (omega arith))))))
  ] refl;
  stand = λ k lt. elim (nat_lt k i) as (λ t. nat_lt k i ≡ t → Stands (points_of queues (get_or ids k 0)) (get_or (set passed' i count) k 0) (get_or (set values' i value) k 0) from (get_or (set nexts' i sooner) k 0)) [
    | true ↦ λ test.
        let other = differ i k (ltb-true k i test) in
        rw (get_or-set_other passed' i k count 0 other) (rw (get_or-set_other values' i k value 0 other) (rw (get_or-set_other nexts' i k sooner 0 other) (are.stand k (ltb-true k i test))))
    | false ↦ λ test.
        let here : i ≡ k = omega (arith, ltb-false k i test, lt) in
        subst (λ j. Stands (points_of queues (get_or ids j 0)) (get_or (set passed' i count) j 0) (get_or (set values' i value) j 0) from (get_or (set nexts' i sooner) j 0)) here
        (rw (get_or-set_same passed' i count 0 (omega (arith, inside, are.passed_long))) (rw (get_or-set_same values' i value 0 (omega (arith, inside, are.values_long)))
        (rw (get_or-set_same nexts' i sooner 0 (omega (arith, inside, are.nexts_long))) stands)))
  ] refl;
  others_passed = λ k le. kept passed passed' i k count are.others_passed le;
  others_values = λ k le. kept values values' i k value are.others_values le;
  others_nexts = λ k le. kept nexts nexts' i k sooner are.others_nexts le;
}

-- the parameter at hand stands as before
pub stands_here : (ids : List ℕ) (queues : List Queue) (passed values nexts : List ℕ) (from i : ℕ) (passed' values' nexts' : List ℕ) (next : ℕ)
    → AreMoving ids queues passed values nexts from i passed' values' nexts' next → AllStand ids queues passed values from nexts → i < length ids
    → Stands (points_of queues (get_or ids i 0)) (get_or passed' i 0) (get_or values' i 0) from (get_or nexts' i 0)
stands_here ids queues passed values nexts from i passed' values' nexts' next are stand inside =
    rw (are.others_passed i (omega arith)) (rw (are.others_values i (omega arith)) (rw (are.others_nexts i (omega arith)) (stand i inside)))

pub set_within : (values : List ℕ) (i value most : ℕ) → All (λ v. v ≤ most) values → value ≤ most → All (λ v. v ≤ most) (set values i value)
set_within values i value most are is k d lt =
    elim (nat_eq k i) as (λ t. nat_eq k i ≡ t → get_or (set values i value) k d ≤ most) [
      | true ↦ λ test.
          let here : i ≡ k = sym (eqb-true k i test) in
          let inside : i < length values = omega (arith, lt, here, length-set values i value) in
          subst (λ j. get_or (set values i value) j d ≤ most) here (rw (get_or-set_same values i value d inside) is)
      | false ↦ λ test. rw (get_or-set_other values i k value d (λ same. true≢false (sym (eq-eqb k i same) ∙ test))) (are k d (omega (arith, lt, length-set values i value)))
    ] refl

-- each parameter's value goes on from the one before the block
pub record AreGoing (ids : List ℕ) (queues : List Queue) (before passed values : List ℕ) (from : ℕ) : Type 0 where
  pub passed_long : length passed ≡ length ids
  pub values_long : length values ≡ length ids
  pub each : (k : ℕ) → k < length ids → GoesOn (points_of queues (get_or ids k 0)) (get_or before k 0) (drop (get_or passed k 0) (points_of queues (get_or ids k 0))) (get_or values k 0) from

pub going_first : (ids : List ℕ) (queues : List Queue) (before passed : List ℕ) → length passed ≡ length ids → length before ≡ length ids
    → ((k : ℕ) → get_or passed k 0 ≡ 0) → AreGoing ids queues before passed before 0
going_first ids queues before passed passed_long values_long none = record {
  passed_long = passed_long;
  values_long = values_long;
  each = λ k inside. rw (none k) (goes_on_here (points_of queues (get_or ids k 0)) (get_or before k 0) 0);
}

pub going_more : (ids : List ℕ) (queues : List Queue) (before passed values : List ℕ) (from : ℕ) (passed' values' : List ℕ) (next : ℕ)
    → AreGoing ids queues before passed values from → AreMoved ids queues passed values from passed' values' next → from < next
    → AreGoing ids queues before passed' values' next
going_more ids queues before passed values from passed' values' next are moved after = record {
  passed_long = moved.passed_long;
  values_long = moved.values_long;
  each = λ k inside. goes_on_later _ _ _ _ _ _ (goes_on_through _ _ _ _ _ _ _ (are.each k inside) (moved.each k inside).goes_on) (omega (arith, after));
}

-- the values are those of each parameter
each_value : (params : List Param) (queues : List Queue) (values now : List ℕ) (place : ℕ) → length values ≡ length (ids_of params) → length now ≡ length (ids_of params)
    → ((k : ℕ) → k < length (ids_of params) → value_at (get_or values k 0) (points_of queues (get_or (ids_of params) k 0)) place ≡ get_or now k 0)
    → values_at params queues values place ≡ now
each_value [] queues values [] place some same each = refl
each_value [] queues values (n ∷ now) place some same each = absurd (omega (arith, same))
each_value (param ∷ params) queues [] now place some same each = absurd (omega (arith, some))
each_value (param ∷ params) queues (value ∷ values) [] place some same each = absurd (omega (arith, same))
each_value (param ∷ params) queues (value ∷ values) (n ∷ now) place some same each =
    let first = each 0 (omega arith) in
    let rest = each_value params queues values now place (omega (arith, some)) (omega (arith, same)) (λ k within. each (suc k) (omega (arith, within))) in
    rw first (ap (λ (vs : List ℕ). n ∷ vs) rest)

length_ids : (params : List Param) → length (ids_of params) ≡ length params
length_ids params = length-map params (λ param. param.id)

-- and they stand until one may change
pub valued_until : (params : List Param) (ids : List ℕ) (queues : List Queue) (before passed values : List ℕ) (from : ℕ) (passed' values' : List ℕ) (next place : ℕ) → ids_of params ≡ ids → length before ≡ length params
    → AreGoing ids queues before passed values from → AreMoved ids queues passed values from passed' values' next → from ≤ place → place < next
    → values_at params queues before place ≡ values'
valued_until params ids queues before passed values from passed' values' next place same long are moved le lt =
    let going = subst (λ (is : List ℕ). AreGoing is queues before passed values from) (sym same) are in
    let moving = subst (λ (is : List ℕ). AreMoved is queues passed values from passed' values' next) (sym same) moved in
    each_value params queues before values' place (long ∙ sym (length_ids params)) moving.values_long
    (λ k inside. sym ((going.each k inside).later place le) ∙ (moving.each k inside).still place le lt)

-- behind the block only a parameter without points has its value of before
behind_any : (points : List (ℕ × ℕ)) (before value j : ℕ) → value_behind value (drop j points) ≡ value_behind before points → value_behind value points ≡ value_behind before points
behind_any [] before value j same = sym (ap (λ (ps : List (ℕ × ℕ)). value_behind value ps) (drop_all j [] (omega arith))) ∙ same
behind_any (point ∷ points) before value j same = refl

behind_last : (before n : ℕ) (points : List (ℕ × ℕ)) (d : ℕ × ℕ) → suc n ≡ length points → value_behind before points ≡ (get_or points n d).1
behind_last before n [] d last = absurd (omega (arith, last))
behind_last before zero (point ∷ []) d last = refl
behind_last before (suc n) (point ∷ []) d last = absurd (omega (arith, last))
behind_last before zero (point ∷ next ∷ points) d last = absurd (omega (arith, last))
behind_last before (suc n) (point ∷ next ∷ points) d last = behind_last point.1 n (next ∷ points) d (omega (arith, last))

pub behind_at : (before n : ℕ) (points : List (ℕ × ℕ)) (d : ℕ × ℕ) → 1 ≤ n → n ≡ length points → value_behind before points ≡ (get_or points (n - 1) d).1
behind_at before n points d some last = behind_last before (n - 1) points d (omega (arith, some, last))

pub behind_none : (before : ℕ) (points : List (ℕ × ℕ)) → 0 ≡ length points → value_behind before points ≡ before
behind_none before [] none = refl
behind_none before (point ∷ points) none = absurd (omega (arith, none))

each_behind : (params : List Param) (queues : List Queue) (values now : List ℕ) → length values ≡ length (ids_of params) → length now ≡ length (ids_of params)
    → ((k : ℕ) → k < length (ids_of params) → get_or now k 0 ≡ value_behind (get_or values k 0) (points_of queues (get_or (ids_of params) k 0)))
    → now ≡ values_behind params queues values
each_behind [] queues values [] some same each = refl
each_behind [] queues values (n ∷ now) some same each = absurd (omega (arith, same))
each_behind (param ∷ params) queues [] now some same each = absurd (omega (arith, some))
each_behind (param ∷ params) queues (value ∷ values) [] some same each = absurd (omega (arith, same))
each_behind (param ∷ params) queues (value ∷ values) (n ∷ now) some same each =
    let first = each 0 (omega arith) in
    let rest = each_behind params queues values now (omega (arith, some)) (omega (arith, same)) (λ k within. each (suc k) (omega (arith, within))) in
    rw first (ap (λ (vs : List ℕ). value_behind value (points_of queues param.id) ∷ vs) rest)

-- the parameters' values behind a block whose last values go on from those before it
pub behind_going : (params : List Param) (ids : List ℕ) (queues : List Queue) (before passed values now : List ℕ) (from : ℕ) → ids_of params ≡ ids → length before ≡ length params
    → AreGoing ids queues before passed values from → AreBehind ids queues values (length ids) now → now ≡ values_behind params queues before
behind_going params ids queues before passed values now from same long are behind =
    let going = subst (λ (is : List ℕ). AreGoing is queues before passed values from) (sym same) are in
    let last = subst (λ (is : List ℕ). AreBehind is queues values (length is) now) (sym same) behind in
    each_behind params queues before now (long ∙ sym (length_ids params)) last.long
    (λ k inside. last.each k inside ∙ behind_any (points_of queues (get_or (ids_of params) k 0)) (get_or before k 0) (get_or values k 0) (get_or passed k 0) (going.each k inside).behind)

-- no point is passed yet
abbrev none_passed : ℕ → List ℕ
none_passed size = replicate size 0

pub zeros : (count size k : ℕ) → get_or (take count (none_passed size)) k 0 ≡ 0
zeros zero size k = refl
zeros (suc count) zero k = refl
zeros (suc count) (suc size) zero = refl
zeros (suc count) (suc size) (suc k) = zeros count size k

pub length_zeros : (count size : ℕ) → count ≤ size → length (take count (none_passed size)) ≡ count
length_zeros count size le = length-take-le count (none_passed size) (let e : length (none_passed size) ≡ size = length-replicate size 0 in omega (arith, le, e))

pub behind_more : (ids : List ℕ) (queues : List Queue) (old : List ℕ) (i : ℕ) (now : List ℕ) (value : ℕ) → AreBehind ids queues old i now → i < length ids
    → value ≡ value_behind (get_or now i 0) (points_of queues (get_or ids i 0)) → AreBehind ids queues old (i + 1) (set now i value)
behind_more ids queues old i now value are inside is = record {
  long = length-set now i value ∙ are.long;
  each = λ k lt. elim (nat_lt k i) as (λ t. nat_lt k i ≡ t → get_or (set now i value) k 0 ≡ value_behind (get_or old k 0) (points_of queues (get_or ids k 0))) [
    | true ↦ λ test. get_or-set_other now i k value 0 (differ i k (ltb-true k i test)) ∙ are.each k (ltb-true k i test)
    | false ↦ λ test.
        let here : i ≡ k = omega (arith, ltb-false k i test, lt) in
        subst (λ j. get_or (set now i value) j 0 ≡ value_behind (get_or old j 0) (points_of queues (get_or ids j 0))) here
        (get_or-set_same now i value 0 (omega (arith, inside, are.long)) ∙ is ∙ ap (λ v. value_behind v (points_of queues (get_or ids i 0))) (are.others i (omega arith)))
  ] refl;
  others = λ k le. get_or-set_other now i k value 0 (λ same. differ k i (omega (arith, le)) (sym same)) ∙ are.others k (omega (arith, le));
}

-- what stands does so from any later sample on
pub stand_later : (ids : List ℕ) (queues : List Queue) (passed values : List ℕ) (from to : ℕ) (nexts : List ℕ) → AllStand ids queues passed values from nexts → from < to → AllStand ids queues passed values to nexts
stand_later ids queues passed values from to nexts stand after k inside place le lt = stand k inside place (omega (arith, after, le)) lt

-- nothing has to stand until 0
pub none_stand : (ids : List ℕ) (queues : List Queue) (passed values nexts : List ℕ) → ((k : ℕ) → get_or nexts k 0 ≡ 0) → AllStand ids queues passed values 0 nexts
none_stand ids queues passed values nexts none k inside place le lt = absurd (let e = none k in omega (arith, lt, e))

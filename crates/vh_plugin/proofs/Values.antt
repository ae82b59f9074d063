-- Values that are set, one for each parameter.
use Rattle.std.proofs.Common.{◌≡◌, ◌≢◌, ℕ, ◌≤◌, ◌<◌, ◌^◌, ◌||◌, Bool, true, false, cond, nat_eq, List, [], ◌∷◌, zero, suc, length, All, get_or, Some, None, if◌then◌else◌, refl, sym, ap, subst, ◌∙◌, arith}
use Rattle.std.proofs.lemmas.Bool.{eqb-true, ne_eqb, true≢false}
use Rattle.vh_points.specs.Queues.{Queue}
use Rattle.vh_points.specs.Values.{value_at, value_behind, points_of}
use Rattle.vh_params.specs.Flags.{is_writable}
use Rattle.vh_plugin.specs.Class.{Param, Class, AreValues, IsLawful, IsSet, writable_of, with_writable}
use Rattle.vh_plugin.specs.Blocks.{values_at, values_behind}
use Rattle.vh_plugin.specs.Controls.{has_id, value_in, with_value}

in_rest : (param : Param) (params : List Param) (id : ℕ) → nat_eq param.id id ≡ false → has_id (param ∷ params) id ≡ true → has_id params id ≡ true
in_rest param params id test has = subst (λ t. (t || has_id params id) ≡ true) test has

pub set_read : (params : List Param) (values : List ℕ) (id value : ℕ) → length values ≡ length params → has_id params id ≡ true → value_in params (with_value params values id value) id ≡ value
set_read [] values id value long has = absurd (true≢false (sym has))
set_read (param ∷ params) [] id value long has = absurd (omega (arith, long))
set_read (param ∷ params) (old ∷ values) id value long has =
    elim (nat_eq param.id id) as (λ t. nat_eq param.id id ≡ t → value_in (param ∷ params) (with_value (param ∷ params) (old ∷ values) id value) id ≡ value) [
      | true ↦ λ test. rw test (rw test refl)
      | false ↦ λ test. rw test (rw test (set_read params values id value (omega (arith, long)) (in_rest param params id test has)))
    ] refl

pub others_same : (params : List Param) (values : List ℕ) (id other value : ℕ) → other ≢ id → value_in params (with_value params values id value) other ≡ value_in params values other
others_same [] values id other value differ = refl
others_same (param ∷ params) [] id other value differ = refl
others_same (param ∷ params) (old ∷ values) id other value differ =
    elim (nat_eq param.id id) as (λ t. nat_eq param.id id ≡ t → value_in (param ∷ params) (with_value (param ∷ params) (old ∷ values) id value) other ≡ value_in (param ∷ params) (old ∷ values) other) [
      | true ↦ λ test. rw test (rw (ne_eqb param.id other (λ same. differ (sym same ∙ eqb-true param.id id test))) refl)
      | false ↦ λ test. rw test (elim (nat_eq param.id other) as (λ t. cond t old (value_in params (with_value params values id value) other) ≡ cond t old (value_in params values other)) [
        | true ↦ refl
        | false ↦ others_same params values id other value differ
      ])
    ] refl

length_with : (params : List Param) (values : List ℕ) (id value : ℕ) → length values ≡ length params → length (with_value params values id value) ≡ length params
length_with [] values id value long = long
length_with (param ∷ params) [] id value long = absurd (omega (arith, long))
length_with (param ∷ params) (old ∷ values) id value long =
    elim (nat_eq param.id id) as (λ t. length (cond t (value ∷ values) (old ∷ with_value params values id value)) ≡ suc (length params)) [
      | true ↦ long
      | false ↦ ap (λ n. suc n) (length_with params values id value (omega (arith, long)))
    ]

all_rest : (x : ℕ) (xs : List ℕ) (most : ℕ) → All (λ n. n ≤ most) (x ∷ xs) → All (λ n. n ≤ most) xs
all_rest x xs most are i d lt = are (suc i) d (omega (arith, lt))

all_more : (x : ℕ) (xs : List ℕ) (most : ℕ) → x ≤ most → All (λ n. n ≤ most) xs → All (λ n. n ≤ most) (x ∷ xs)
all_more x xs most le are zero d lt = le
all_more x xs most le are (suc i) d lt = are i d (omega (arith, lt))

all_with : (params : List Param) (values : List ℕ) (id value most : ℕ) → All (λ n. n ≤ most) values → value ≤ most → All (λ n. n ≤ most) (with_value params values id value)
all_with [] values id value most are le = are
all_with (param ∷ params) [] id value most are le = are
all_with (param ∷ params) (old ∷ values) id value most are le =
    elim (nat_eq param.id id) as (λ t. All (λ n. n ≤ most) (cond t (value ∷ values) (old ∷ with_value params values id value))) [
      | true ↦ all_more value values most le (all_rest old values most are)
      | false ↦ all_more old (with_value params values id value) most (are 0 0 (omega arith)) (all_with params values id value most (all_rest old values most are) le)
    ]

pub set_within : (params : List Param) (values : List ℕ) (id value : ℕ) → AreValues params values → value ≤ 2 ^ 24 → AreValues params (with_value params values id value)
set_within params values id value are le = record { each = length_with params values id value are.each; within = all_with params values id value (2 ^ 24) are.within le }

pub own_at : (params : List Param) (queues : List Queue) (values : List ℕ) (offset k : ℕ) (d : Param) → length values ≡ length params → k < length params
    → get_or (values_at params queues values offset) k 0 ≡ value_at (get_or values k 0) (points_of queues (get_or params k d).id) offset
own_at [] queues values offset k d long lt = absurd (omega (arith, lt))
own_at (param ∷ params) queues [] offset k d long lt = absurd (omega (arith, long))
own_at (param ∷ params) queues (value ∷ values) offset zero d long lt = refl
own_at (param ∷ params) queues (value ∷ values) offset (suc k) d long lt = own_at params queues values offset k d (omega (arith, long)) (omega (arith, lt))

pub own_behind : (params : List Param) (queues : List Queue) (values : List ℕ) (k : ℕ) (d : Param) → length values ≡ length params → k < length params
    → get_or (values_behind params queues values) k 0 ≡ value_behind (get_or values k 0) (points_of queues (get_or params k d).id)
own_behind [] queues values k d long lt = absurd (omega (arith, lt))
own_behind (param ∷ params) queues [] k d long lt = absurd (omega (arith, long))
own_behind (param ∷ params) queues (value ∷ values) zero d long lt = refl
own_behind (param ∷ params) queues (value ∷ values) (suc k) d long lt = own_behind params queues values k d (omega (arith, long)) (omega (arith, lt))

pub length_at : (params : List Param) (queues : List Queue) (values : List ℕ) (offset : ℕ) → length values ≡ length params → length (values_at params queues values offset) ≡ length params
length_at [] queues values offset long = refl
length_at (param ∷ params) queues [] offset long = absurd (omega (arith, long))
length_at (param ∷ params) queues (value ∷ values) offset long = ap (λ n. suc n) (length_at params queues values offset (omega (arith, long)))

pub length_behind : (params : List Param) (queues : List Queue) (values : List ℕ) → length values ≡ length params → length (values_behind params queues values) ≡ length params
length_behind [] queues values long = refl
length_behind (param ∷ params) queues [] long = absurd (omega (arith, long))
length_behind (param ∷ params) queues (value ∷ values) long = ap (λ n. suc n) (length_behind params queues values (omega (arith, long)))

with_none : (params : List Param) (old : List ℕ) → length old ≡ length params → with_writable params old [] ≡ old
with_none [] [] long = refl
with_none [] (value ∷ old) long = absurd (omega (arith, long))
with_none (param ∷ params) [] long = refl
with_none (param ∷ params) (value ∷ old) long = refl

-- a parameter that is only shown keeps its value
with_shown : (param : Param) (params : List Param) (value : ℕ) (old others : List ℕ) → is_writable param.flags ≡ false → length old ≡ length params
    → with_writable (param ∷ params) (value ∷ old) others ≡ value ∷ with_writable params old others
with_shown param params value old [] test long = ap (λ (vs : List ℕ). value ∷ vs) (sym (with_none params old long))
with_shown param params value old (other ∷ others) test long = rw test refl

-- and one that can be set has the first of the others
with_given : (param : Param) (params : List Param) (value other : ℕ) (old others : List ℕ) → is_writable param.flags ≡ true
    → with_writable (param ∷ params) (value ∷ old) (other ∷ others) ≡ other ∷ with_writable params old others
with_given param params value other old others test = rw test refl

had_first : (param : Param) (params : List Param) (value : ℕ) (old others : List ℕ) → is_writable param.flags ≡ true → length others ≡ suc (length (writable_of params old))
    → ((rest : List ℕ) → length rest ≡ length (writable_of params old) → writable_of params (with_writable params old rest) ≡ rest)
    → writable_of (param ∷ params) (with_writable (param ∷ params) (value ∷ old) others) ≡ others
had_first param params value old [] test same had = absurd (omega (arith, same))
had_first param params value old (other ∷ others) test same had = rw test (rw test (ap (λ (vs : List ℕ). other ∷ vs) (had others (omega (arith, same)))))

pub given_had : (params : List Param) (old others : List ℕ) → length old ≡ length params → length others ≡ length (writable_of params old) → writable_of params (with_writable params old others) ≡ others
given_had [] old [] long same = refl
given_had [] old (other ∷ others) long same = absurd (omega (arith, same))
given_had (param ∷ params) [] others long same = absurd (omega (arith, long))
given_had (param ∷ params) (value ∷ old) others long same =
    elim (is_writable param.flags) as (λ t. is_writable param.flags ≡ t → writable_of (param ∷ params) (with_writable (param ∷ params) (value ∷ old) others) ≡ others) [
      | true ↦ λ test. had_first param params value old others test (subst (λ t. length others ≡ length (cond t (value ∷ writable_of params old) (writable_of params old))) test same)
          (λ rest fits. given_had params old rest (omega (arith, long)) fits)
      | false ↦ λ test.
          ap (λ (vs : List ℕ). writable_of (param ∷ params) vs) (with_shown param params value old others test (omega (arith, long)))
          ∙ rw test (given_had params old others (omega (arith, long)) (subst (λ t. length others ≡ length (cond t (value ∷ writable_of params old) (writable_of params old))) test same))
    ] refl

-- one place more, of a parameter that was given its value, or that kept it
given_place : (param : Param) (params : List Param) (one value : ℕ) (old values rest : List ℕ) (k : ℕ) (d : Param) → is_writable param.flags ≡ true
    → ((j : ℕ) → j < length params → get_or rest j 0 ≡ (if is_writable (get_or params j d).flags then get_or values j 0 else get_or old j 0)) → k < suc (length params)
    → get_or (value ∷ rest) k 0 ≡ (if is_writable (get_or (param ∷ params) k d).flags then get_or (value ∷ values) k 0 else get_or (one ∷ old) k 0)
given_place param params one value old values rest zero d test are lt = rw test refl
given_place param params one value old values rest (suc k) d test are lt = are k (omega (arith, lt))

kept_place : (param : Param) (params : List Param) (one value : ℕ) (old values rest : List ℕ) (k : ℕ) (d : Param) → is_writable param.flags ≡ false
    → ((j : ℕ) → j < length params → get_or rest j 0 ≡ (if is_writable (get_or params j d).flags then get_or values j 0 else get_or old j 0)) → k < suc (length params)
    → get_or (one ∷ rest) k 0 ≡ (if is_writable (get_or (param ∷ params) k d).flags then get_or (value ∷ values) k 0 else get_or (one ∷ old) k 0)
kept_place param params one value old values rest zero d test are lt = rw test refl
kept_place param params one value old values rest (suc k) d test are lt = are k (omega (arith, lt))

-- the value at each place, where a class's own values were given
placed : (params : List Param) (old values : List ℕ) → length old ≡ length params → length values ≡ length params → (k : ℕ) (d : Param) → k < length params
    → get_or (with_writable params old (writable_of params values)) k 0 ≡ (if is_writable (get_or params k d).flags then get_or values k 0 else get_or old k 0)
placed [] old values long same k d lt = absurd (omega (arith, lt))
placed (param ∷ params) [] values long same k d lt = absurd (omega (arith, long))
placed (param ∷ params) (one ∷ old) [] long same k d lt = absurd (omega (arith, same))
placed (param ∷ params) (one ∷ old) (value ∷ values) long same k d lt =
    let fits : length old ≡ length params = omega (arith, long) in
    let rest = with_writable params old (writable_of params values) in
    let are = λ (j : ℕ) (inside : j < length params). placed params old values fits (omega (arith, same)) j d inside in
    elim (is_writable param.flags) as (λ t. is_writable param.flags ≡ t
    → get_or (with_writable (param ∷ params) (one ∷ old) (cond t (value ∷ writable_of params values) (writable_of params values))) k 0
    ≡ (if is_writable (get_or (param ∷ params) k d).flags then get_or (value ∷ values) k 0 else get_or (one ∷ old) k 0)) [
      | true ↦ λ test. ap (λ (vs : List ℕ). get_or vs k 0) (with_given param params one value old (writable_of params values) test) ∙ given_place param params one value old values rest k d test are lt
      | false ↦ λ test. ap (λ (vs : List ℕ). get_or vs k 0) (with_shown param params one old (writable_of params values) test fits) ∙ kept_place param params one value old values rest k d test are lt
    ] refl

some_same : (a b : List ℕ) → Some a ≡ Some b → a ≡ b
some_same a b e = cc

none_some : (a : List ℕ) → None ≡ Some a → ⊥
none_some a e = cc

pub taken_back : (class : Class) (old values new : List ℕ) (taken : Bool) → IsLawful class → AreValues class.params old → AreValues class.params values → IsSet class (class.state_text values) old new taken
    → (taken ≡ true) × ((k : ℕ) (d : Param) → k < length class.params → get_or new k 0 ≡ (if is_writable (get_or class.params k d).flags then get_or values k 0 else get_or old k 0))
taken_back class old values new false lawful are_old are set = absurd (none_some (writable_of class.params values) (sym set.0 ∙ lawful.reads_back values are))
taken_back class old values new true lawful are_old are set =
    let held : set.0 ≡ writable_of class.params values = some_same set.0 (writable_of class.params values) (sym set.1 ∙ lawful.reads_back values are) in
    let is : new ≡ with_writable class.params old (writable_of class.params values) = set.2 ∙ ap (λ (vs : List ℕ). with_writable class.params old vs) held in
    (refl, λ k d lt. ap (λ (vs : List ℕ). get_or vs k 0) is ∙ placed class.params old values are_old.each are.each k d lt)

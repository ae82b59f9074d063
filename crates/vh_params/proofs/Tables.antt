-- Faults of tables, and what follows where there is none.
use Rattle.std.proofs.Common.{◌≡◌, ◌≢◌, ℕ, zero, suc, ◌+◌, ◌<◌, ◌≤◌, ◌^◌, Bool, true, false, not, ◌||◌, cond, eqb, ltb, List, [], ◌∷◌, length, get_or, take, drop, Option, Some, None, refl, sym, ap, subst, ◌∙◌, inl, inr, arith}
use Rattle.std.specs.Prelude.{All}
use Rattle.std.specs.List.{list_any, Contains, IsDistinct}
use Rattle.std.specs.List.Sorted.{IsPermutation, IsNonDecreasingBy}
use Rattle.std.specs.Option.{option_or, is_some}
use Rattle.std.proofs.lemmas.Bool.{cases_Bool, false≢true}
use Rattle.std.proofs.lemmas.Bool.Decides.{nat_tests}
use Rattle.std.proofs.lemmas.List.{drop_more, take_more, get_or-take, get_or_default, length-take}
use Rattle.std.proofs.lemmas.List.Elements.{All-cons, All-nil}
use Rattle.std.proofs.lemmas.List.Folds.{list_any_at}
use Rattle.std.proofs.lemmas.List.Sorted.{All-permutation, Contains-permutation, length_permutation}
use Rattle.std.proofs.lemmas.Map.Keys.{IsDistinct-from_apart, IsDistinct-IsPermutation, apart_from_distinct}
use Rattle.vh_num.specs.Values.{quant_of}
use Rattle.vh_params.specs.declared.param.ParamInfo.{ParamInfo}
use Rattle.vh_params.specs.declared.param.UnitInfo.{UnitInfo}
use Rattle.vh_params.specs.declared.table.TableFault.{TableFault}
use Rattle.vh_params.specs.Params.{param_in, has_unit, first_fault, param_rules, fault_behind, table_fault, IsLawful, AreRising}

-- the faults from a parameter on
pub fault_step : (units : List UnitInfo) (params : List ParamInfo) (i : ℕ) (d : ParamInfo) → i < length params
    → fault_behind units (take i params) (drop i params) ≡ option_or (first_fault (param_rules units (take i params) (get_or params i d))) (fault_behind units (take (i + 1) params) (drop (i + 1) params))
fault_step units params i d lt =
    ap (fault_behind units (take i params)) (drop_more params i d lt)
    ∙ ap (λ before. option_or (first_fault (param_rules units (take i params) (get_or params i d))) (fault_behind units before (drop (i + 1) params))) (sym (take_more params i d lt))

none_or : (o : Option TableFault) (next : Option TableFault) → is_some o ≡ false → option_or o next ≡ next
none_or None next e = refl
none_or (Some fault) next e = absurd (false≢true (sym e))

some_or : (o : Option TableFault) (next : Option TableFault) → is_some o ≡ true → option_or o next ≡ o
some_or None next e = absurd (false≢true e)
some_or (Some fault) next e = refl

module _ (units : List UnitInfo) (params : List ParamInfo) (i : ℕ) (d : ParamInfo) (lt : i < length params) (fault : Option TableFault) (is : fault ≡ first_fault (param_rules units (take i params) (get_or params i d))) (stands : fault_behind units (take i params) (drop i params) ≡ table_fault params units) where
  pub goes_on : is_some fault ≡ false → fault_behind units (take (i + 1) params) (drop (i + 1) params) ≡ table_fault params units
  goes_on none = sym (ap (λ o. option_or o (fault_behind units (take (i + 1) params) (drop (i + 1) params))) (sym is) ∙ none_or fault _ none) ∙ sym (fault_step units params i d lt) ∙ stands

  pub stops : is_some fault ≡ true → fault ≡ table_fault params units
  stops some = sym (ap (λ o. option_or o (fault_behind units (take (i + 1) params) (drop (i + 1) params))) (sym is) ∙ some_or fault _ some) ∙ sym (fault_step units params i d lt) ∙ stands

one_more : (i : ℕ) → i + 1 ≡ suc i
one_more i = omega arith

-- an element of a list that isn't empty
hd : {X : Type 0} (xs : List X) (i : ℕ) → i < length xs → X
hd [] i lt = absurd (omega arith)
hd (x ∷ xs) i lt = x

-- where there is no fault, none stands anywhere
first_of_none : (o next : Option TableFault) → option_or o next ≡ None → (o ≡ None) × (next ≡ None)
first_of_none None next e = (refl, e)
first_of_none (Some fault) next e = absurd (false≢true (sym (ap is_some e)))

-- a parameter of whose rules none holds
rules_none : (a b c d : Bool) (v w x y : TableFault) → first_fault ((a, v) ∷ (b, w) ∷ (c, x) ∷ (d, y) ∷ []) ≡ None → (a ≡ false) × (b ≡ false) × (c ≡ false) × (d ≡ false)
rules_none false false false false v w x y e = (refl, refl, refl, refl)
rules_none true b c d v w x y e = absurd (false≢true (sym (ap is_some e)))
rules_none false true c d v w x y e = absurd (false≢true (sym (ap is_some e)))
rules_none false false true d v w x y e = absurd (false≢true (sym (ap is_some e)))
rules_none false false false true v w x y e = absurd (false≢true (sym (ap is_some e)))

or_false : (a b : Bool) → (a || b) ≡ false → (a ≡ false) × (b ≡ false)
or_false false b e = (refl, e)
or_false true b e = absurd (false≢true (sym e))

pub not_false : (a : Bool) → not a ≡ false → a ≡ true
not_false true e = refl
not_false false e = absurd (false≢true (sym e))

at_most : (a b : ℕ) → ltb a b ≡ false → b ≤ a
at_most a b e = grind (arith, nat_tests)

equal : (a b : ℕ) → eqb a b ≡ true → a ≡ b
equal a b e = grind (arith, nat_tests)

equal_test : (a b : ℕ) → a ≡ b → eqb a b ≡ true
equal_test a b e = grind (arith, nat_tests)

same_id : ParamInfo → ParamInfo → Bool
same_id p q = eqb p.id q.id

module _ (units : List UnitInfo) (params : List ParamInfo) (none : table_fault params units ≡ None) where
  none_from : (i : ℕ) → i ≤ length params → fault_behind units (take i params) (drop i params) ≡ None
  none_from zero le = none
  none_from (suc i) le =
      let d : ParamInfo = get_or params i (hd params i (omega arith)) in
      let lt : i < length params = omega arith in
      let next = (first_of_none _ _ (sym (fault_step units params i d lt) ∙ none_from i (omega arith))).1 in
      subst (λ n. fault_behind units (take n params) (drop n params) ≡ None) (one_more i) next

  no_fault_at : (i : ℕ) (d : ParamInfo) → i < length params → first_fault (param_rules units (take i params) (get_or params i d)) ≡ None
  no_fault_at i d lt = (first_of_none _ _ (sym (fault_step units params i d lt) ∙ none_from i (omega arith))).0

  no_rule_at : (i : ℕ) (d : ParamInfo) → i < length params
      → (list_any (λ other. eqb other.id (get_or params i d).id) (take i params) ≡ false) × (ltb 4095 (get_or params i d).steps ≡ false)
      × ((ltb (2 ^ 24) (get_or params i d).first || not (eqb (quant_of (get_or params i d).first (get_or params i d).steps) (get_or params i d).first)) ≡ false) × (not (has_unit units (get_or params i d).unit) ≡ false)
  no_rule_at i d lt = rules_none _ _ _ _ _ _ _ _ (no_fault_at i d lt)

  pub all_lawful : All (IsLawful units) params
  all_lawful = λ i d lt.
      let rules = no_rule_at i d lt in
      let first = or_false _ _ rules.2 in
      record {
        steps = at_most _ _ rules.1;
        first = at_most _ _ first.0;
        quantised = equal _ _ (not_false _ first.1);
        unit = not_false _ rules.3;
      }

  apart : (i j : ℕ) (d : ParamInfo) → i < j → j < length params → same_id (get_or params i d) (get_or params j d) ≡ false
  unfolding same_id
  apart i j d before lt =
      let rules = no_rule_at j d lt in
      let here : get_or (take j params) i d ≡ get_or params i d = get_or-take j params i d before in
      let within : i < length (take j params) = omega (arith, length-take j params) in
      elim (cases_Bool (eqb (get_or params i d).id (get_or params j d).id)) [
        | inl same ↦
            let there = list_any_at (λ (other : ParamInfo). eqb other.id (get_or params j d).id) (take j params) i d within (ap (λ (p : ParamInfo). eqb p.id (get_or params j d).id) here ∙ same) in
            absurd (false≢true (sym rules.0 ∙ there))
        | inr other ↦ other
      ]

  distinct : IsDistinct same_id params
  distinct = IsDistinct-from_apart same_id params apart

flips : (p q : ParamInfo) → same_id p q ≡ same_id q p
unfolding same_id
flips p q = grind (arith, nat_tests)

differ : (a b : ℕ) → eqb a b ≡ false → a ≢ b
differ a b e same = absurd (false≢true (sym e ∙ equal_test a b same))

-- the parameters in the order of their ids
module _ (units : List UnitInfo) (params list : List ParamInfo) (none : table_fault params units ≡ None) (order : IsPermutation params list) (sorted : IsNonDecreasingBy (λ (param : ParamInfo). param.id) list) where
  distinct_list : IsDistinct same_id list
  distinct_list = IsDistinct-IsPermutation same_id flips params list order (distinct units params none)

  pub rising_list : AreRising list
  unfolding same_id
  rising_list = λ i j d before lt.
      let le : (get_or list i d).id ≤ (get_or list j d).id = sorted i j d (omega arith) lt in
      let other : (get_or list i d).id ≢ (get_or list j d).id = differ _ _ (apart_from_distinct same_id list i j d distinct_list before lt) in
      omega arith

  pub lawful_list : All (IsLawful units) list
  lawful_list = All-permutation (IsLawful units) params list order (all_lawful units params none)

  pub length_list : length list ≡ length params
  length_list = length_permutation params list order

-- looking for an id
find_at_index : (id : ℕ) (xs : List ParamInfo) (k : ℕ) (x : ParamInfo) → k < length xs → get_or xs k x ≡ x → eqb x.id id ≡ true → ((i : ℕ) (d : ParamInfo) → i < k → eqb (get_or xs i d).id id ≡ false) → param_in xs id ≡ Some x
find_at_index id [] k x lt is same others = absurd (omega arith)
find_at_index id (y ∷ ys) zero x lt is same others =
    let test : eqb y.id id ≡ true = ap (λ (p : ParamInfo). eqb p.id id) is ∙ same in
    rw test (ap Some is)
find_at_index id (y ∷ ys) (suc k) x lt is same others =
    let test : eqb y.id id ≡ false = others 0 y (omega arith) in
    rw test (find_at_index id ys k x (omega arith) is same (λ i d before. others (suc i) d (omega arith)))

found : (id : ℕ) (xs : List ParamInfo) (x : ParamInfo) → param_in xs id ≡ Some x → Contains xs x × (eqb x.id id ≡ true)
found id [] x e = absurd (false≢true (ap is_some e))
found id (y ∷ ys) x e =
    elim (eqb y.id id) as (λ b. eqb y.id id ≡ b → cond b (Some y) (param_in ys id) ≡ Some x → Contains (y ∷ ys) x × (eqb x.id id ≡ true)) [
      | true ↦ λ test h. let same : y ≡ x = cc in ((0, omega arith, same), ap (λ (p : ParamInfo). eqb p.id id) (sym same) ∙ test)
      | false ↦ λ test h. let rest = found id ys x h in ((suc rest.0.0, omega (arith, rest.0.1), rest.0.2), rest.1)
    ] refl e

none_found : (id : ℕ) (xs : List ParamInfo) → param_in xs id ≡ None → All (λ (p : ParamInfo). eqb p.id id ≡ false) xs
none_found id [] e = All-nil (λ (p : ParamInfo). eqb p.id id ≡ false)
none_found id (y ∷ ys) e =
    elim (eqb y.id id) as (λ b. eqb y.id id ≡ b → cond b (Some y) (param_in ys id) ≡ None → All (λ (p : ParamInfo). eqb p.id id ≡ false) (y ∷ ys)) [
      | true ↦ λ test h. absurd (false≢true (sym (ap is_some h)))
      | false ↦ λ test h. All-cons (λ (p : ParamInfo). eqb p.id id ≡ false) y ys test (none_found id ys h)
    ] refl e

find_none : (id : ℕ) (xs : List ParamInfo) → All (λ (p : ParamInfo). eqb p.id id ≡ false) xs → param_in xs id ≡ None
find_none id [] all = refl
find_none id (y ∷ ys) all =
    let test : eqb y.id id ≡ false = all 0 y (omega arith) in
    rw test (find_none id ys (λ k d lt. all (suc k) d (omega arith)))

module _ (units : List UnitInfo) (params list : List ParamInfo) (none : table_fault params units ≡ None) (order : IsPermutation params list) where
  pub finds_list : (id : ℕ) → param_in list id ≡ param_in params id
  unfolding same_id
  finds_list id =
      elim (param_in params id) as (λ o. param_in params id ≡ o → param_in list id ≡ o) [
        | Some x ↦ λ e.
            let was = found id params x e in
            let there = Contains-permutation params list x order was.0 in
            let distinct_list = IsDistinct-IsPermutation same_id flips params list order (distinct units params none) in
            find_at_index id list there.0 x there.1 there.2 was.1
            (λ i d before.
            let other = apart_from_distinct same_id list i there.0 x distinct_list before there.1 in
            let same : x.id ≡ id = equal _ _ was.1 in
            let at : (get_or list there.0 x).id ≡ id = ap (λ (p : ParamInfo). p.id) there.2 ∙ same in
            ap (λ (p : ParamInfo). eqb p.id id) (get_or_default list i d x (omega (arith, there.1, before)))
            ∙ sym (ap (λ n. eqb (get_or list i x).id n) at) ∙ other)
        | None ↦ λ e. find_none id list (All-permutation (λ (p : ParamInfo). eqb p.id id ≡ false) params list order (none_found id params e))
      ] refl

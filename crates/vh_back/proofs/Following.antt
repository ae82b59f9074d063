-- How values follow.
use Rattle.std.proofs.Common.{◌≡◌, ◌<◌, ◌≤◌, ◌^◌, ℕ, zero, suc, Bool, true, false, ◌&&◌, ◌==◌, nat_le, List, [], ◌∷◌, ◌++◌, length, set, get_or, Option, Some, None, unwrap_or, if◌then◌else◌, refl, sym, ap, subst, ◌∙◌, inl, inr, arith}
use Rattle.std.specs.List.{AllByRecursion}
use Rattle.std.specs.Option.{option_or}
use Rattle.std.proofs.lemmas.Bool.{or_parts, and_left, and_right, eq-eqb, eqb-true, ne_eqb, le-leb, cases_eq}
use Rattle.std.proofs.lemmas.List.{length-map, get_or-set_same, get_or-set_other}
use Rattle.vh_plugin.specs.Class.{Class, IsLawful, AreValues, Param}
use Rattle.vh_plugin.specs.Controls.{has_id, with_value, normalized_to}
use Rattle.vh_counted.specs.declared.object.Opened.{Opened}
use Rattle.vh_counted.specs.Held.{value_of_opened}
use Rattle.vh_back.specs.declared.item.Parameter.{Parameter}
use Rattle.vh_back.specs.declared.item.Item.TheVariants.{Echo}
use Rattle.vh_back.specs.Items.{parameter, value_for}
use Rattle.vh_back.specs.Follows.{followed, parameters_at, of_openers, AreFollowed}

unwrap_both : (g f : Option ℕ) (value : ℕ) → unwrap_or g (unwrap_or f value) ≡ unwrap_or (option_or g f) value
unwrap_both None f value = refl
unwrap_both (Some x) f value = refl

pub both_followed : (g f : Parameter → Option ℕ) (ones : List Parameter) (values : List ℕ) → followed g ones (followed f ones values) ≡ followed (λ one. option_or (g one) (f one)) ones values
both_followed g f [] values = refl
both_followed g f (one ∷ ones) [] = refl
both_followed g f (one ∷ ones) (value ∷ values) = λ i. unwrap_both (g one) (f one) value i ∷ both_followed g f ones values i

pub same_followed : (f g : Parameter → Option ℕ) → ((one : Parameter) → f one ≡ g one) → (ones : List Parameter) (values : List ℕ) → followed f ones values ≡ followed g ones values
same_followed f g same [] values = refl
same_followed f g same (one ∷ ones) [] = refl
same_followed f g same (one ∷ ones) (value ∷ values) = λ i. unwrap_or (same one i) value ∷ same_followed f g same ones values i

pub none_followed : (f : Parameter → Option ℕ) (ones : List Parameter) (values : List ℕ) → AllByRecursion (λ one. f one ≡ None) ones → length values ≡ length ones → followed f ones values ≡ values
none_followed f [] [] none long = refl
none_followed f [] (value ∷ values) none long = absurd (omega arith)
none_followed f (one ∷ ones) [] none long = refl
none_followed f (one ∷ ones) (value ∷ values) none long = λ i. unwrap_or (none.0 i) value ∷ none_followed f ones values none.1 (omega arith) i

pub parts_followed : (f : Parameter → Option ℕ) (ones others : List Parameter) (values more : List ℕ) → length values ≡ length ones → followed f (ones ++ others) (values ++ more) ≡ followed f ones values ++ followed f others more
parts_followed f [] others [] more long = refl
parts_followed f [] others (value ∷ values) more long = absurd (omega arith)
parts_followed f (one ∷ ones) others [] more long = absurd (omega arith)
parts_followed f (one ∷ ones) others (value ∷ values) more long = ap (λ (rest : List ℕ). unwrap_or (f one) value ∷ rest) (parts_followed f ones others values more (omega arith))

abbrev pub AreRising : List Param → Type 0
AreRising params = (i j : ℕ) (d : Param) → i < j → j < length params → (get_or params i d).id < (get_or params j d).id

-- an echo gives no later parameter a value
later_none : (node id value after : ℕ) (last : Bool) (params : List Param) → ((k : ℕ) (d : Param) → k < length params → id < (get_or params k d).id)
    → AllByRecursion (λ one. value_for one (Echo node id value after last) ≡ None) (parameters_at node params)
later_none node id value after last [] above = tt
later_none node id value after last (param ∷ params) above =
    let over : id < param.id = above 0 param (omega arith) in
    let apart : (param.id == id) ≡ false = ne_eqb param.id id (λ same. absurd (omega arith)) in (
      ap (λ (b : Bool). if b then Some value else None) (and_right (node == node) (param.id == id) apart),
      later_none node id value after last params (λ k d lt. above (suc k) d (omega arith)),
    )

-- nor one of another node
pub others_none : (node id value after : ℕ) (last : Bool) (other : ℕ) (params : List Param) → (other ≡ node → ⊥) → AllByRecursion (λ one. value_for one (Echo node id value after last) ≡ None) (parameters_at other params)
others_none node id value after last other [] apart = tt
others_none node id value after last other (param ∷ params) apart = (
  ap (λ (b : Bool). if b then Some value else None) (and_left (other == node) (param.id == id) (ne_eqb other node apart)),
  others_none node id value after last other params apart,
)

-- an echo sets the one parameter of its id
set_followed : (node id value after : ℕ) (last : Bool) (params : List Param) (values : List ℕ) → AreRising params → length values ≡ length params
    → followed (λ one. value_for one (Echo node id value after last)) (parameters_at node params) values ≡ with_value params values id value
set_followed node id value after last [] [] rising long = refl
set_followed node id value after last [] (first ∷ values) rising long = absurd (omega arith)
set_followed node id value after last (param ∷ params) [] rising long = refl
set_followed node id value after last (param ∷ params) (first ∷ values) rising long =
    let f : Parameter → Option ℕ = λ one. value_for one (Echo node id value after last) in
    let own : (node == node) ≡ true = eq-eqb node node refl in
    let next : AreRising params = λ i j d lt within. rising (suc i) (suc j) d (omega arith) (omega arith) in
    elim (param.id == id) as (λ t. (param.id == id) ≡ t
    → (unwrap_or (if (node == node) && t then Some value else None) first ∷ followed f (parameters_at node params) values) ≡ (if t then value ∷ values else first ∷ with_value params values id value)) [
      | true ↦ λ here.
          let same : param.id ≡ id = eqb-true param.id id here in
          let above : (k : ℕ) (d : Param) → k < length params → id < (get_or params k d).id = λ k d lt. subst (λ (n : ℕ). n < (get_or params k d).id) same (rising 0 (suc k) d (omega arith) (omega arith)) in
          let rest = none_followed f (parameters_at node params) values (later_none node id value after last params above) (let size = length-map params (λ (p : Param). parameter node p.id) in omega arith) in
          (λ i. unwrap_or (if own i && true then Some value else None) first ∷ rest i)
      | false ↦ λ apart. (λ i. unwrap_or (if own i && false then Some value else None) first ∷ set_followed node id value after last params values next (omega arith) i)
    ] refl

-- where no parameter has the id, nothing is set
lacking : (params : List Param) (values : List ℕ) (id value : ℕ) → has_id params id ≡ false → with_value params values id value ≡ values
lacking [] values id value none = refl
lacking (param ∷ params) [] id value none = refl
lacking (param ∷ params) (first ∷ values) id value none =
    let parts = or_parts (param.id == id) (has_id params id) none in
    ap (λ (b : Bool). if b then value ∷ values else first ∷ with_value params values id value) parts.0 ∙ ap (λ (rest : List ℕ). first ∷ rest) (lacking params values id value parts.1)

normalized : (params : List Param) (values : List ℕ) (id value : ℕ) → value ≤ 2 ^ 24 → normalized_to params values id value ≡ with_value params values id value
normalized params values id value within =
    elim (has_id params id) as (λ t. has_id params id ≡ t → (if t && nat_le value (2 ^ 24) then with_value params values id value else values) ≡ with_value params values id value) [
      | true ↦ λ there. ap (λ (b : Bool). if b then with_value params values id value else values) (le-leb value (2 ^ 24) within)
      | false ↦ λ none. sym (lacking params values id value none)
    ] refl

pub echo_sets : (node id value after : ℕ) (last : Bool) (params : List Param) (values : List ℕ) → AreRising params → length values ≡ length params → value ≤ 2 ^ 24
    → normalized_to params values id value ≡ followed (λ one. value_for one (Echo node id value after last)) (parameters_at node params) values
echo_sets node id value after last params values rising long within =
    normalized params values id value within ∙ sym (set_followed node id value after last params values rising long)

-- controllers' values, by node
pub record AreValued (class_of : ℕ → Class) (codes : List ℕ) (values : List (List ℕ)) : Type 0 where
  pub lawful : (code : ℕ) → IsLawful (class_of code)
  pub long : length values ≡ length codes
  pub each : (node : ℕ) → node < length codes → AreValues (class_of (get_or codes node 0)).params (get_or values node [])

module _ {C : Type 0} (class_of : ℕ → Class) (code : C → ℕ) (values : C → List ℕ) where
  valued_at : ((x : C) → AreValues (class_of (code x)).params (values x)) → (edits : List (Opened C)) (node : ℕ) → node < length (of_openers code edits)
      → AreValues (class_of (get_or (of_openers code edits) node 0)).params (get_or (of_openers values edits) node [])
  valued_at valued [] node within = absurd (omega arith)
  valued_at valued (edit ∷ edits) zero within = valued (value_of_opened edit)
  valued_at valued (edit ∷ edits) (suc node) within = valued_at valued edits node (omega arith)

  pub valued_openers : ((code : ℕ) → IsLawful (class_of code)) → ((x : C) → AreValues (class_of (code x)).params (values x)) → (edits : List (Opened C)) → AreValued class_of (of_openers code edits) (of_openers values edits)
  valued_openers lawful valued edits = record {
    lawful = lawful;
    long = length-map edits (λ (edit : Opened C). values (value_of_opened edit)) ∙ sym (length-map edits (λ (edit : Opened C). code (value_of_opened edit)));
    each = valued_at valued edits;
  }

pub all_none : (f : Parameter → Option ℕ) (node : ℕ) → ((id : ℕ) → f (parameter node id) ≡ None) → (params : List Param) → AllByRecursion (λ one. f one ≡ None) (parameters_at node params)
all_none f node none [] = tt
all_none f node none (param ∷ params) = (none param.id, all_none f node none params)

sized : (node : ℕ) (params : List Param) (values : List ℕ) → AreValues params values → length values ≡ length (parameters_at node params)
sized node params values are = are.each ∙ sym (length-map params (λ (p : Param). parameter node p.id))

module _ (class_of : ℕ → Class) (codes : List ℕ) where
  -- where nothing is of these nodes, nothing changes
  pub stays : (f : Parameter → Option ℕ) (values : List (List ℕ)) → AreValued class_of codes values → ((node id : ℕ) → node < length codes → f (parameter node id) ≡ None) → AreFollowed class_of f codes values values
  stays f values are none = record {
    each = λ node within.
        let params : List Param = (class_of (get_or codes node 0)).params in
        sym (none_followed f (parameters_at node params) (get_or values node []) (all_none f node (λ id. none node id within) params) (sized node params (get_or values node []) (are.each node within)));
  }

  -- an echo sets its node's controller
  pub echo_follows : (values : List (List ℕ)) (node id value after : ℕ) (last : Bool) → AreValued class_of codes values → node < length codes → value ≤ 2 ^ 24
      → AreFollowed class_of (λ one. value_for one (Echo node id value after last)) codes values (set values node (normalized_to (class_of (get_or codes node 0)).params (get_or values node []) id value))
  echo_follows values node id value after last are within small =
      let f : Parameter → Option ℕ = λ one. value_for one (Echo node id value after last) in
      let params : ℕ → List Param = λ k. (class_of (get_or codes k 0)).params in
      let new : List ℕ = normalized_to (params node) (get_or values node []) id value in
      let size = are.long in
      record {
        each = λ k lt.
            elim (cases_eq k node) [
              | inl same ↦
                  subst (λ (n : ℕ). get_or (set values node new) n [] ≡ followed f (parameters_at n (params n)) (get_or values n [])) (sym same)
                  (get_or-set_same values node new [] (omega arith) ∙ echo_sets node id value after last (params node) (get_or values node []) (are.lawful (get_or codes node 0)).rising (are.each node within).each small)
              | inr apart ↦
                  get_or-set_other values node k new [] apart
                  ∙ sym (none_followed f (parameters_at k (params k)) (get_or values k []) (others_none node id value after last k (params k) apart) (sized k (params k) (get_or values k []) (are.each k lt)))
            ];
      }

  pub then_follows : (f g : Parameter → Option ℕ) (first next final : List (List ℕ)) → AreFollowed class_of f codes first next → AreFollowed class_of g codes next final → AreFollowed class_of (λ one. option_or (g one) (f one)) codes first final
  then_follows f g first next final one two = record {
    each = λ node within.
        let ones : List Parameter = parameters_at node (class_of (get_or codes node 0)).params in
        two.each node within ∙ ap (followed g ones) (one.each node within) ∙ both_followed g f ones (get_or first node []);
  }

  pub same_follows : (f g : Parameter → Option ℕ) (first next : List (List ℕ)) → ((one : Parameter) → f one ≡ g one) → AreFollowed class_of f codes first next → AreFollowed class_of g codes first next
  same_follows f g first next same are = record {
    each = λ node within. are.each node within ∙ same_followed f g same (parameters_at node (class_of (get_or codes node 0)).params) (get_or first node []);
  }

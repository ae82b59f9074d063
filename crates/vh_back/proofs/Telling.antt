-- What an item does to controllers.
use Rattle.std.proofs.Common.{◌≡◌, ◌<◌, ◌≤◌, ◌^◌, ℕ, suc, Bool, true, false, ◌==◌, List, [], ◌∷◌, ◌++◌, length, map, set, get_or, Option, Some, None, if◌then◌else◌, refl, sym, ap, subst, ◌∙◌, arith}
use Rattle.std.specs.List.{list_all, AllByRecursion}
use Rattle.std.specs.Option.{option_or}
use Rattle.std.proofs.lemmas.Bool.{and_parts, and_left, eq-eqb, eqb-true, ne_eqb, leb-true, true≢false}
use Rattle.std.proofs.lemmas.List.{length-map, map-set, get_or-map, set-get_or}
use Rattle.vh_counted.specs.declared.object.Opened.{Opened}
use Rattle.vh_counted.specs.Held.{value_of_opened, object_of_opened, numbers_of_opened}
use Rattle.vh_plugin.specs.Class.{Class, IsLawful, AreValues, Param}
use Rattle.vh_plugin.specs.Controls.{normalized_to}
use Rattle.vh_back.specs.declared.item.Parameter.{Parameter}
use Rattle.vh_back.specs.declared.item.Item.{Item}
use Rattle.vh_back.specs.declared.item.Item.TheVariants.{Echo, Reply}
use Rattle.vh_back.specs.Items.{parameter, is_within, value_for, last_value}
use Rattle.vh_back.specs.Follows.{followed, parameters_at, of_openers, AreFollowed, AreAsBefore}
use Rattle.vh_back.specs.Laws.{told, told_all}
use Rattle.vh_back.proofs.Puts.{last_append}
use Rattle.vh_back.proofs.Following.{AreRising, both_followed, none_followed, others_none, all_none, echo_sets, valued_openers, stays, echo_follows, then_follows, same_follows}

-- an echo gives no parameter of a node below a value
pub below_none : (node id value after : ℕ) (last : Bool) (other key : ℕ) → other < node → value_for (parameter other key) (Echo node id value after last) ≡ None
below_none node id value after last other key below =
    ap (λ (b : Bool). if b then Some value else None) (and_left (other == node) (key == id) (ne_eqb other node (λ same. absurd (omega arith))))

-- what stays the same of one stays of all
pub kept_map : {X Y : Type 0} (f : X → Y) (xs : List X) (place : ℕ) (x d : X) → place < length xs → f x ≡ f (get_or xs place d) → map f (set xs place x) ≡ map f xs
kept_map f xs place x d within same =
    map-set f xs place x ∙ ap (λ (y : _). set (map f xs) place y) (same ∙ sym (get_or-map f xs place d (f x) within)) ∙ set-get_or (map f xs) place (f x)

-- values follow these items, and then those
pub goes_on : (class_of : ℕ → Class) (codes : List ℕ) (items more : List Item) (first next final : List (List ℕ)) → AreFollowed class_of (last_value items) codes first next
    → AreFollowed class_of (last_value more) codes next final → AreFollowed class_of (last_value (items ++ more)) codes first final
goes_on class_of codes items more first next final one two =
    same_follows class_of codes (λ p. option_or (last_value more p) (last_value items p)) (last_value (items ++ more)) first final (λ p. sym (last_append items more p))
    (then_follows class_of codes (last_value items) (last_value more) first next final one two)

module _ {C : Type 0} (class_of : ℕ → Class) (code : C → ℕ) (values : C → List ℕ) where
  abbrev Follows : (Parameter → Option ℕ) → List (Opened C) → List (Opened C) → Type 0
  Follows last old new = AreFollowed class_of last (of_openers code old) (of_openers values old) (of_openers values new)

  -- an echo was taken
  pub echo_told : ((code : ℕ) → IsLawful (class_of code)) → ((x : C) → AreValues (class_of (code x)).params (values x)) → (edits : List (Opened C)) (node id value after : ℕ) (last : Bool) (edit d : Opened C)
      → node < length edits → value ≤ 2 ^ 24
      → values (value_of_opened edit) ≡ normalized_to (class_of (code (value_of_opened (get_or edits node d)))).params (values (value_of_opened (get_or edits node d))) id value
      → Follows (λ one. value_for one (Echo node id value after last)) edits (set edits node edit)
  echo_told lawful valued edits node id value after last edit d within small is =
      let codes : List ℕ = of_openers code edits in
      let old : List (List ℕ) = of_openers values edits in
      let size : length codes ≡ length edits = length-map edits (λ (e : Opened C). code (value_of_opened e)) in
      let code_at : code (value_of_opened (get_or edits node d)) ≡ get_or codes node 0 = sym (get_or-map (λ (e : Opened C). code (value_of_opened e)) edits node d 0 within) in
      let values_at : values (value_of_opened (get_or edits node d)) ≡ get_or old node [] = sym (get_or-map (λ (e : Opened C). values (value_of_opened e)) edits node d [] within) in
      let new : values (value_of_opened edit) ≡ normalized_to (class_of (get_or codes node 0)).params (get_or old node []) id value =
      is ∙ (λ i. normalized_to (class_of (code_at i)).params (values_at i) id value) in
      subst (λ (all : List (List ℕ)). AreFollowed class_of (λ one. value_for one (Echo node id value after last)) codes old all)
      (sym (map-set (λ (e : Opened C). values (value_of_opened e)) edits node edit ∙ ap (λ (one : List ℕ). set old node one) new))
      (echo_follows class_of codes old node id value after last (valued_openers class_of code values lawful valued edits) (omega arith) small)

  -- nothing was set
  pub none_told : ((code : ℕ) → IsLawful (class_of code)) → ((x : C) → AreValues (class_of (code x)).params (values x)) → (edits : List (Opened C)) (f : Parameter → Option ℕ)
      → ((node id : ℕ) → node < length edits → f (parameter node id) ≡ None) → (all : List (List ℕ)) → all ≡ of_openers values edits → AreFollowed class_of f (of_openers code edits) (of_openers values edits) all
  none_told lawful valued edits f none all is =
      let size : length (of_openers code edits) ≡ length edits = length-map edits (λ (e : Opened C). code (value_of_opened e)) in
      subst (λ (ones : List (List ℕ)). AreFollowed class_of f (of_openers code edits) (of_openers values edits) ones) (sym is)
      (stays class_of (of_openers code edits) f (of_openers values edits) (valued_openers class_of code values lawful valued edits) (λ node id within. none node id (omega arith)))

  -- these items were taken, and then those
  pub both_told : (first next final : List (Opened C)) (items more : List Item) → of_openers code next ≡ of_openers code first → Follows (last_value items) first next
      → Follows (last_value more) next final → Follows (last_value (items ++ more)) first final
  both_told first next final items more codes one two =
      goes_on class_of (of_openers code first) items more (of_openers values first) (of_openers values next) (of_openers values final) one
      (subst (λ (all : List ℕ). AreFollowed class_of (last_value more) all (of_openers values next) (of_openers values final)) codes two)

  -- these items were taken, and one more
  pub more_told : (first next final : List (Opened C)) (items : List Item) (item : Item) → of_openers code next ≡ of_openers code first → Follows (last_value items) first next
      → Follows (λ one. value_for one item) next final → Follows (last_value (items ++ item ∷ [])) first final
  more_told first next final items item codes one two = both_told first next final items (item ∷ []) codes one two

  pub none_yet : ((code : ℕ) → IsLawful (class_of code)) → ((x : C) → AreValues (class_of (code x)).params (values x)) → (edits : List (Opened C)) → Follows (last_value []) edits edits
  none_yet lawful valued edits = none_told lawful valued edits (last_value []) (λ node id within. refl) (of_openers values edits) refl

module _ {C : Type 0} (code mode : C → ℕ) where
  pub as_before : (edits : List (Opened C)) → AreAsBefore code mode edits edits
  as_before edits = record { codes = refl; modes = refl; objects = refl; numbers = refl }

  pub then_as_before : (first next final : List (Opened C)) → AreAsBefore code mode first next → AreAsBefore code mode next final → AreAsBefore code mode first final
  then_as_before first next final one two = record {
    codes = two.codes ∙ one.codes;
    modes = two.modes ∙ one.modes;
    objects = two.objects ∙ one.objects;
    numbers = two.numbers ∙ one.numbers;
  }

  pub one_as_before : (edits : List (Opened C)) (node : ℕ) (edit d : Opened C) → node < length edits → code (value_of_opened edit) ≡ code (value_of_opened (get_or edits node d))
      → mode (value_of_opened edit) ≡ mode (value_of_opened (get_or edits node d)) → object_of_opened edit ≡ object_of_opened (get_or edits node d) → numbers_of_opened edit ≡ numbers_of_opened (get_or edits node d)
      → AreAsBefore code mode edits (set edits node edit)
  one_as_before edits node edit d within codes modes objects numbers = record {
    codes = kept_map (λ (e : Opened C). code (value_of_opened e)) edits node edit d within codes;
    modes = kept_map (λ (e : Opened C). mode (value_of_opened e)) edits node edit d within modes;
    objects = kept_map object_of_opened edits node edit d within objects;
    numbers = kept_map numbers_of_opened edits node edit d within numbers;
  }

-- the law: each echo sets its parameter, so the last one stands
long_followed : (f : Parameter → Option ℕ) (ones : List Parameter) (values : List ℕ) → length values ≡ length ones → length (followed f ones values) ≡ length ones
long_followed f [] values long = refl
long_followed f (one ∷ ones) [] long = absurd (omega arith)
long_followed f (one ∷ ones) (value ∷ values) long = ap suc (long_followed f ones values (omega arith))

told_is : (node : ℕ) (params : List Param) (values : List ℕ) (item : Item) → AreRising params → length values ≡ length params → is_within item ≡ true
    → told node params values item ≡ followed (λ one. value_for one item) (parameters_at node params) values
told_is node params values (Echo node' id value after last) rising long within =
    let size : length (parameters_at node params) ≡ length params = length-map params (λ (p : Param). parameter node p.id) in
    elim (node' == node) as (λ t. (node' == node) ≡ t
    → (if t then normalized_to params values id value else values) ≡ followed (λ one. value_for one (Echo node' id value after last)) (parameters_at node params) values) [
      | true ↦ λ here.
          subst (λ (n : ℕ). normalized_to params values id value ≡ followed (λ one. value_for one (Echo n id value after last)) (parameters_at node params) values) (sym (eqb-true node' node here))
          (echo_sets node id value after last params values rising long (leb-true value (2 ^ 24) within))
      | false ↦ λ apart.
          let other : node ≡ node' → ⊥ = λ same. true≢false (sym (ap (λ (n : ℕ). node' == n) same ∙ eq-eqb node' node' refl) ∙ apart) in
          sym (none_followed (λ one. value_for one (Echo node' id value after last)) (parameters_at node params) values (others_none node' id value after last node params other) (omega arith))
    ] refl
told_is node params values (Reply reply) rising long within =
    let size : length (parameters_at node params) ≡ length params = length-map params (λ (p : Param). parameter node p.id) in
    sym (none_followed (λ one. None) (parameters_at node params) values (all_none (λ one. None) node (λ id. refl) params) (omega arith))

pub last_stands : (node : ℕ) (params : List Param) (values : List ℕ) (items : List Item) → AreRising params → length values ≡ length params → list_all is_within items ≡ true
    → told_all node params values items ≡ followed (last_value items) (parameters_at node params) values
last_stands node params values [] rising long within =
    let size : length (parameters_at node params) ≡ length params = length-map params (λ (p : Param). parameter node p.id) in
    sym (none_followed (λ one. None) (parameters_at node params) values (all_none (λ one. None) node (λ id. refl) params) (omega arith))
last_stands node params values (item ∷ items) rising long within =
    let parts = and_parts (is_within item) (list_all is_within items) within in
    let ones : List Parameter = parameters_at node params in
    let size : length ones ≡ length params = length-map params (λ (p : Param). parameter node p.id) in
    let first = told_is node params values item rising long parts.0 in
    let long' : length (told node params values item) ≡ length params = ap length first ∙ long_followed (λ one. value_for one item) ones values (omega arith) ∙ size in
    last_stands node params (told node params values item) items rising long' parts.1
    ∙ ap (followed (last_value items) ones) first
    ∙ both_followed (last_value items) (λ one. value_for one item) ones values

-- and where nothing was echoed, all values stay
pub none_stands : (parameters : List Parameter) (values : List ℕ) → length values ≡ length parameters → followed (last_value []) parameters values ≡ values
none_stands parameters values long = none_followed (last_value []) parameters values (each_none parameters) long
  where
    each_none : (ones : List Parameter) → AllByRecursion (λ one. last_value [] one ≡ None) ones
    each_none [] = tt
    each_none (one ∷ ones) = (refl, each_none ones)

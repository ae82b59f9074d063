-- What is kept after an item was put.
use Rattle.std.proofs.Common.{◌≡◌, ℕ, zero, suc, ◌<◌, Bool, true, false, List, [], ◌∷◌, ◌++◌, length, set, get_or, Option, Some, None, if◌then◌else◌, refl, sym, ap, subst, ◌∙◌, arith}
use Rattle.std.specs.List.{list_all, AllByRecursion, IsDistinct}
use Rattle.std.specs.Option.{option_or}
use Rattle.std.proofs.lemmas.Bool.{and_parts, and_from, true≢false}
use Rattle.std.proofs.lemmas.List.{append-nil}
use Rattle.vh_params.specs.declared.command.Reply.{Reply as Answer}
use Rattle.vh_back.specs.declared.item.Parameter.{Parameter}
use Rattle.vh_back.specs.declared.item.Item.{Item}
use Rattle.vh_back.specs.declared.item.Item.TheVariants.{Echo, Reply}
use Rattle.vh_back.specs.Items.{parameter, is_same, echoed, replies, value_for, last_value, replaces, put}
use Rattle.vh_back.proofs.Sameness.{same_is, same_back, or_none, or_assoc}

-- an item in the place of the first that it replaces
pub put_at : (item : Item) (kept : List Item) (place : ℕ) (d : Item) → place < length kept → replaces item (get_or kept place d) ≡ true
    → ((k : ℕ) → k < place → replaces item (get_or kept k d) ≡ false) → put item kept ≡ set kept place item
put_at item [] place d within here before = absurd (omega arith)
put_at item (first ∷ kept) zero d within here before = rw here refl
put_at item (first ∷ kept) (suc place) d within here before =
    rw (before zero (omega arith)) (ap (λ (items : List Item). first ∷ items) (put_at item kept place d (omega arith) here (λ k lt. before (suc k) (omega arith))))

-- or behind
pub put_behind : (item : Item) (kept : List Item) (d : Item) → ((k : ℕ) → k < length kept → replaces item (get_or kept k d) ≡ false) → put item kept ≡ kept ++ item ∷ []
put_behind item [] d none = refl
put_behind item (first ∷ kept) d none =
    rw (none zero (omega arith)) (ap (λ (items : List Item). first ∷ items) (put_behind item kept d (λ k lt. none (suc k) (omega arith))))

-- by cases on whether the item replaces the first
abbrev first_put : Item → Item → List Item → Bool → List Item
first_put item first kept here = if here then item ∷ kept else first ∷ put item kept

pub all_put : (test : Item → Bool) (item : Item) (kept : List Item) → list_all test kept ≡ true → test item ≡ true → list_all test (put item kept) ≡ true
all_put test item [] all this = and_from (test item) true this refl
all_put test item (first ∷ kept) all this =
    let parts = and_parts (test first) (list_all test kept) all in
    elim (replaces item first) as (λ here. list_all test (first_put item first kept here) ≡ true) [
      | true ↦ and_from (test item) (list_all test kept) this parts.1
      | false ↦ and_from (test first) (list_all test (put item kept)) parts.0 (all_put test item kept parts.1 this)
    ]

-- the replies are those before and this one
replies_in_place : (item first : Item) (kept : List Item) → replaces item first ≡ true → replies (item ∷ kept) ≡ replies (first ∷ kept) ++ replies (item ∷ [])
replies_in_place (Echo node id value after last) (Echo node' id' value' after' last') kept is = sym (append-nil (replies kept))
replies_in_place (Echo node id value after last) (Reply reply) kept is = absurd (true≢false (sym is))
replies_in_place (Reply reply) first kept is = absurd (true≢false (sym is))

replies_behind : (first : Item) (more kept : List Item) (others : List Answer) → replies more ≡ replies kept ++ others → replies (first ∷ more) ≡ replies (first ∷ kept) ++ others
replies_behind (Echo node id value after last) more kept others is = is
replies_behind (Reply reply) more kept others is = ap (λ (answers : List Answer). reply ∷ answers) is

pub replies_put : (item : Item) (kept : List Item) → replies (put item kept) ≡ replies kept ++ replies (item ∷ [])
replies_put item [] = refl
replies_put item (first ∷ kept) =
    elim (replaces item first) as (λ here. replaces item first ≡ here → replies (first_put item first kept here) ≡ replies (first ∷ kept) ++ replies (item ∷ [])) [
      | true ↦ λ is. replies_in_place item first kept is
      | false ↦ λ is. replies_behind first (put item kept) kept (replies (item ∷ [])) (replies_put item kept)
    ] refl

-- a reply comes behind
pub reply_put : (reply : Answer) (kept : List Item) → put (Reply reply) kept ≡ kept ++ Reply reply ∷ []
reply_put reply [] = refl
reply_put reply (first ∷ kept) = ap (λ (items : List Item). first ∷ items) (reply_put reply kept)

-- what holds of the parameters of the echoes, and of this one's
all_in_place : (P : Parameter → Type 0) (item first : Item) (kept : List Item) → replaces item first ≡ true → AllByRecursion P (echoed (first ∷ kept)) → AllByRecursion P (echoed (item ∷ kept))
all_in_place P (Echo node id value after last) (Echo node' id' value' after' last') kept is all =
    (subst P (sym (same_is (parameter node id) (parameter node' id') is)) all.0, all.1)
all_in_place P (Echo node id value after last) (Reply reply) kept is all = absurd (true≢false (sym is))
all_in_place P (Reply reply) first kept is all = absurd (true≢false (sym is))

all_behind : (P : Parameter → Type 0) (first : Item) (more kept : List Item) → (AllByRecursion P (echoed kept) → AllByRecursion P (echoed more)) → AllByRecursion P (echoed (first ∷ kept)) → AllByRecursion P (echoed (first ∷ more))
all_behind P (Echo node id value after last) more kept next all = (all.0, next all.1)
all_behind P (Reply reply) more kept next all = next all

all_echoed_put : (P : Parameter → Type 0) (item : Item) (kept : List Item) → AllByRecursion P (echoed (item ∷ [])) → AllByRecursion P (echoed kept) → AllByRecursion P (echoed (put item kept))
all_echoed_put P item [] this all = this
all_echoed_put P item (first ∷ kept) this all =
    elim (replaces item first) as (λ here. replaces item first ≡ here → AllByRecursion P (echoed (first_put item first kept here))) [
      | true ↦ λ is. all_in_place P item first kept is all
      | false ↦ λ is. all_behind P first (put item kept) kept (λ rest. all_echoed_put P item kept this rest) all
    ] refl

-- no two echoes are of one parameter
alone : (item : Item) → IsDistinct is_same (echoed (item ∷ []))
unfolding IsDistinct
alone (Echo node id value after last) = (tt, tt)
alone (Reply reply) = tt

rest_apart : (first : Item) (kept : List Item) → IsDistinct is_same (echoed (first ∷ kept)) → IsDistinct is_same (echoed kept)
unfolding IsDistinct
rest_apart (Echo node id value after last) kept apart = apart.1
rest_apart (Reply reply) kept apart = apart

apart_in_place : (item first : Item) (kept : List Item) → replaces item first ≡ true → IsDistinct is_same (echoed (first ∷ kept)) → IsDistinct is_same (echoed (item ∷ kept))
unfolding IsDistinct
apart_in_place (Echo node id value after last) (Echo node' id' value' after' last') kept is apart =
    let P : Parameter → Type 0 = λ p. AllByRecursion (λ other. is_same p other ≡ false) (echoed kept) in
    (subst P (sym (same_is (parameter node id) (parameter node' id') is)) apart.0, apart.1)
apart_in_place (Echo node id value after last) (Reply reply) kept is apart = absurd (true≢false (sym is))
apart_in_place (Reply reply) first kept is apart = absurd (true≢false (sym is))

apart_behind : (item first : Item) (kept : List Item) → replaces item first ≡ false → IsDistinct is_same (echoed (first ∷ kept)) → IsDistinct is_same (echoed (put item kept)) → IsDistinct is_same (echoed (first ∷ put item kept))
unfolding IsDistinct
apart_behind (Echo node id value after last) (Echo node' id' value' after' last') kept is apart next = (
  all_echoed_put (λ other. is_same (parameter node' id') other ≡ false) (Echo node id value after last) kept (same_back (parameter node id) (parameter node' id') is, tt) apart.0,
  next,
)
apart_behind (Reply reply) (Echo node' id' value' after' last') kept is apart next = (
  all_echoed_put (λ other. is_same (parameter node' id') other ≡ false) (Reply reply) kept tt apart.0,
  next,
)
apart_behind item (Reply reply) kept is apart next = next

pub apart_put : (item : Item) (kept : List Item) → IsDistinct is_same (echoed kept) → IsDistinct is_same (echoed (put item kept))
apart_put item [] apart = alone item
apart_put item (first ∷ kept) apart =
    elim (replaces item first) as (λ here. replaces item first ≡ here → IsDistinct is_same (echoed (first_put item first kept here))) [
      | true ↦ λ is. apart_in_place item first kept is apart
      | false ↦ λ is. apart_behind item first kept is apart (apart_put item kept (rest_apart first kept apart))
    ] refl

-- the last echo of a parameter
pub last_append : (items more : List Item) (other : Parameter) → last_value (items ++ more) other ≡ option_or (last_value more other) (last_value items other)
last_append [] more other = sym (or_none (last_value more other))
last_append (item ∷ items) more other =
    ap (λ (o : Option ℕ). option_or o (value_for other item)) (last_append items more other) ∙ or_assoc (last_value more other) (last_value items other) (value_for other item)

none_for : (other : Parameter) (kept : List Item) → AllByRecursion (λ p. is_same other p ≡ false) (echoed kept) → last_value kept other ≡ None
none_for other [] apart = refl
none_for other (Echo node id value after last ∷ kept) apart =
    let P : Bool → Option ℕ → Type 0 = λ b o. option_or o (if b then Some value else None) ≡ None in
    subst (λ (o : Option ℕ). P (is_same other (parameter node id)) o) (sym (none_for other kept apart.1)) (subst (λ (b : Bool). P b None) (sym apart.0) refl)
none_for other (Reply reply ∷ kept) apart = ap (λ (o : Option ℕ). option_or o None) (none_for other kept apart)

last_in_place : (item first : Item) (kept : List Item) (other : Parameter) → replaces item first ≡ true → IsDistinct is_same (echoed (first ∷ kept))
    → last_value (item ∷ kept) other ≡ option_or (value_for other item) (last_value (first ∷ kept) other)
unfolding IsDistinct
last_in_place (Echo node id value after last) (Echo node' id' value' after' last') kept other is apart =
    let this : Parameter = parameter node id in
    let that : Parameter = parameter node' id' in
    let same : this ≡ that = same_is this that is in
    let P : Parameter → Type 0 = λ p. AllByRecursion (λ q. is_same p q ≡ false) (echoed kept) in
    elim (is_same other this) as (λ t. is_same other this ≡ t
    → option_or (last_value kept other) (if t then Some value else None) ≡ option_or (if t then Some value else None) (option_or (last_value kept other) (if is_same other that then Some value' else None))) [
      | true ↦ λ here. ap (λ (o : Option ℕ). option_or o (Some value)) (none_for other kept (subst P (sym (same_is other this here ∙ same)) apart.0))
      | false ↦ λ apart'. ap (λ (b : Bool). option_or (last_value kept other) (if b then Some value' else None)) (sym (ap (λ (p : Parameter). is_same other p) (sym same) ∙ apart'))
    ] refl
last_in_place (Echo node id value after last) (Reply reply) kept other is apart = absurd (true≢false (sym is))
last_in_place (Reply reply) first kept other is apart = absurd (true≢false (sym is))

pub last_put : (item : Item) (kept : List Item) (other : Parameter) → IsDistinct is_same (echoed kept) → last_value (put item kept) other ≡ option_or (value_for other item) (last_value kept other)
last_put item [] other apart = sym (or_none (value_for other item))
last_put item (first ∷ kept) other apart =
    elim (replaces item first) as (λ here. replaces item first ≡ here → last_value (first_put item first kept here) other ≡ option_or (value_for other item) (last_value (first ∷ kept) other)) [
      | true ↦ λ is. last_in_place item first kept other is apart
      | false ↦ λ is. ap (λ (o : Option ℕ). option_or o (value_for other first)) (last_put item kept other (rest_apart first kept apart)) ∙ or_assoc (value_for other item) (last_value kept other) (value_for other first)
    ] refl

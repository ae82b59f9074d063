-- What was offered after an offer, and after offers of what changed.
use Rattle.std.proofs.Common.{◌≡◌, ◌<◌, ◌≤◌, ◌+◌, ℕ, zero, suc, Bool, true, false, List, [], ◌∷◌, ◌++◌, length, take, drop, set, get_or, Option, Some, None, unwrap_or, if◌then◌else◌, refl, sym, ap, subst, ◌∙◌, arith, append_assoc}
use Rattle.std.specs.List.{list_any, list_all, AllByRecursion, IsDistinct}
use Rattle.std.specs.Option.{option_or}
use Rattle.std.proofs.lemmas.Bool.{and_parts, and_from, eq-eqb, ne_eqb}
use Rattle.std.proofs.lemmas.List.{append-nil, drop_more, drop-set-lt, take_more, take_more_set, take_all, length-set}
use Rattle.std.proofs.lemmas.List.Elements.{filter_map-append}
use Rattle.std.proofs.lemmas.List.Folds.{list_all-append, list_any_at}
use Rattle.vh_params.specs.declared.command.Reply.{Reply as Answer}
use Rattle.vh_back.specs.declared.item.Parameter.{Parameter}
use Rattle.vh_back.specs.declared.item.Item.{Item}
use Rattle.vh_back.specs.declared.item.Item.TheVariants.{Echo}
use Rattle.vh_back.specs.Items.{is_same, reply_of, is_among, echoed, replies, value_for, last_value, put}
use Rattle.vh_back.specs.Ends.{AreOfFew}
use Rattle.vh_back.specs.Follows.{followed}
use Rattle.vh_back.specs.Changes.{changes}
use Rattle.vh_back.proofs.Sameness.{same_back, is_itself, or_assoc}
use Rattle.vh_back.proofs.Puts.{all_put, replies_put, last_append, last_put}
use Rattle.vh_back.proofs.Following.{same_followed}

-- what was sent and what is kept, before and after some of what was kept was sent
pub moved_on : (sent items kept all more : List Item) → more ≡ sent ++ items → all ≡ items ++ kept → more ++ kept ≡ sent ++ all
moved_on sent items kept all more here there =
    ap (λ (ones : List Item). ones ++ kept) here ∙ append_assoc sent items kept ∙ ap (λ (ones : List Item). sent ++ ones) (sym there)

pub offered_last : (sent kept : List Item) (item : Item) (other : Parameter) → IsDistinct is_same (echoed kept)
    → last_value (sent ++ put item kept) other ≡ option_or (value_for other item) (last_value (sent ++ kept) other)
offered_last sent kept item other apart =
    last_append sent (put item kept) other
    ∙ ap (λ (o : Option ℕ). option_or o (last_value sent other)) (last_put item kept other apart)
    ∙ or_assoc (value_for other item) (last_value kept other) (last_value sent other)
    ∙ ap (λ (o : Option ℕ). option_or (value_for other item) o) (sym (last_append sent kept other))

pub offered_replies : (sent kept : List Item) (item : Item) → replies (sent ++ put item kept) ≡ replies (sent ++ kept) ++ replies (item ∷ [])
offered_replies sent kept item =
    filter_map-append reply_of sent (put item kept)
    ∙ ap (λ (answers : List Answer). replies sent ++ answers) (replies_put item kept)
    ∙ sym (append_assoc (replies sent) (replies kept) (replies (item ∷ [])))
    ∙ ap (λ (answers : List Answer). answers ++ replies (item ∷ [])) (sym (filter_map-append reply_of sent kept))

pub all_parts : (test : Item → Bool) (items more : List Item) → list_all test (items ++ more) ≡ true → (list_all test items ≡ true) × (list_all test more ≡ true)
all_parts test items more all = and_parts (list_all test items) (list_all test more) (sym (list_all-append test items more) ∙ all)

all_both : (test : Item → Bool) (items more : List Item) → list_all test items ≡ true → list_all test more ≡ true → list_all test (items ++ more) ≡ true
all_both test items more all others = list_all-append test items more ∙ and_from (list_all test items) (list_all test more) all others

-- what holds of all that was offered, and of this item
pub offered_all : (test : Item → Bool) (sent kept : List Item) (item : Item) → list_all test (sent ++ kept) ≡ true → test item ≡ true → list_all test (sent ++ put item kept) ≡ true
offered_all test sent kept item all this =
    let parts = all_parts test sent kept all in
    all_both test sent (put item kept) parts.0 (all_put test item kept parts.1 this)

-- an echo of one of these parameters may be offered
pub few_with : (most : ℕ) (parameters : List Parameter) (items : List Item) (place : ℕ) (d : Parameter) (value after : ℕ) (last : Bool) → length parameters ≤ most → place < length parameters
    → list_all (is_among parameters) items ≡ true → AreOfFew most (items ++ Echo (get_or parameters place d).node (get_or parameters place d).id value after last ∷ [])
few_with most parameters items place d value after last few within among =
    let one : Parameter = get_or parameters place d in
    record {
      parameters = parameters;
      few = few;
      among = all_both (is_among parameters) items (Echo one.node one.id value after last ∷ []) among
          (and_from (list_any (is_same one) parameters) true (list_any_at (is_same one) parameters place d within (is_itself one)) refl);
    }

-- an echo of one of different parameters gives that one its value
other_at : (one : Parameter) (others : List Parameter) (place : ℕ) (d : Parameter) → place < length others → AllByRecursion (λ other. is_same one other ≡ false) others → is_same one (get_or others place d) ≡ false
other_at one [] place d within apart = absurd (omega arith)
other_at one (first ∷ others) zero d within apart = apart.0
other_at one (first ∷ others) (suc place) d within apart = other_at one others place d (omega arith) apart.1

given : (one other : Parameter) (value after : ℕ) (last : Bool) (b : Bool) → is_same other one ≡ b → value_for other (Echo one.node one.id value after last) ≡ (if b then Some value else None)
given one other value after last b is = ap (λ (t : Bool). if t then Some value else None) is

rest_as_before : (one : Parameter) (value after : ℕ) (last : Bool) (f : Parameter → Option ℕ) (others : List Parameter) (firsts : List ℕ) → AllByRecursion (λ other. is_same one other ≡ false) others
    → followed (λ other. option_or (value_for other (Echo one.node one.id value after last)) (f other)) others firsts ≡ followed f others firsts
rest_as_before one value after last f [] firsts apart = refl
rest_as_before one value after last f (other ∷ others) [] apart = refl
rest_as_before one value after last f (other ∷ others) (first ∷ firsts) apart = λ i.
    unwrap_or (option_or (given one other value after last false (same_back one other apart.0) i) (f other)) first ∷ rest_as_before one value after last f others firsts apart.1 i

pub echo_at : (parameters : List Parameter) (place : ℕ) (d : Parameter) (value after : ℕ) (last : Bool) (f : Parameter → Option ℕ) (firsts : List ℕ) → IsDistinct is_same parameters → place < length parameters
    → followed (λ other. option_or (value_for other (Echo (get_or parameters place d).node (get_or parameters place d).id value after last)) (f other)) parameters firsts ≡ set (followed f parameters firsts) place value
unfolding IsDistinct
echo_at [] place d value after last f firsts apart within = absurd (omega arith)
echo_at (one ∷ others) place d value after last f [] apart within = refl
echo_at (one ∷ others) zero d value after last f (first ∷ firsts) apart within = λ i.
    unwrap_or (option_or (given one one value after last true (is_itself one) i) (f one)) first ∷ rest_as_before one value after last f others firsts apart.0 i
echo_at (one ∷ others) (suc place) d value after last f (first ∷ firsts) apart within =
    let this : Parameter = get_or others place d in
    let within' : place < length others = omega arith in
    λ i. unwrap_or (option_or (given this one value after last false (other_at one others place d within' apart.0) i) (f one)) first ∷ echo_at others place d value after last f firsts apart.1 within' i

-- the changes from a place on
changed_here : (after : ℕ) (last : Bool) (parameters : List Parameter) (befores values : List ℕ) (place : ℕ) (d : Parameter) → place < length parameters → place < length befores → place < length values
    → changes after last (drop place parameters) (drop place befores) (drop place values)
    ≡ changes after last (get_or parameters place d ∷ drop (place + 1) parameters) (get_or befores place 0 ∷ drop (place + 1) befores) (get_or values place 0 ∷ drop (place + 1) values)
changed_here after last parameters befores values place d one two three = λ i.
    changes after last (drop_more parameters place d one i) (drop_more befores place 0 two i) (drop_more values place 0 three i)

pub changed_at : (after : ℕ) (last : Bool) (parameters : List Parameter) (befores values : List ℕ) (place : ℕ) (d : Parameter) → place < length parameters → place < length befores → place < length values
    → (get_or befores place 0 ≡ get_or values place 0 → ⊥)
    → changes after last (drop place parameters) (drop place befores) (drop place values)
    ≡ Echo (get_or parameters place d).node (get_or parameters place d).id (get_or values place 0) after last ∷ changes after last (drop (place + 1) parameters) (drop (place + 1) befores) (drop (place + 1) values)
changed_at after last parameters befores values place d one two three apart =
    let rest : List Item = changes after last (drop (place + 1) parameters) (drop (place + 1) befores) (drop (place + 1) values) in
    changed_here after last parameters befores values place d one two three
    ∙ ap (λ (b : Bool). if b then rest else Echo (get_or parameters place d).node (get_or parameters place d).id (get_or values place 0) after last ∷ rest) (ne_eqb (get_or befores place 0) (get_or values place 0) apart)

pub unchanged_at : (after : ℕ) (last : Bool) (parameters : List Parameter) (befores values : List ℕ) (place : ℕ) (d : Parameter) → place < length parameters → place < length befores → place < length values
    → get_or befores place 0 ≡ get_or values place 0
    → changes after last (drop place parameters) (drop place befores) (drop place values) ≡ changes after last (drop (place + 1) parameters) (drop (place + 1) befores) (drop (place + 1) values)
unchanged_at after last parameters befores values place d one two three same =
    let rest : List Item = changes after last (drop (place + 1) parameters) (drop (place + 1) befores) (drop (place + 1) values) in
    changed_here after last parameters befores values place d one two three
    ∙ ap (λ (b : Bool). if b then rest else Echo (get_or parameters place d).node (get_or parameters place d).id (get_or values place 0) after last ∷ rest) (eq-eqb (get_or befores place 0) (get_or values place 0) same)

-- how far the offers of changes have come, at a place
pub record AreOffered (parameters : List Parameter) (befores values : List ℕ) (after : ℕ) (last : Bool) (before now : List Item) (echoes : List ℕ) (place : ℕ) : Type 0 where
  pub done : take place echoes ≡ take place values
  pub long : length echoes ≡ length values
  pub among : list_all (is_among parameters) now ≡ true
  pub follow : (firsts : List ℕ) → followed (last_value before) parameters firsts ≡ befores → followed (last_value now) parameters firsts ≡ echoes
  pub only : (test : Item → Bool) → list_all test (before ++ changes after last parameters befores values) ≡ true → list_all test (now ++ changes after last (drop place parameters) (drop place echoes) (drop place values)) ≡ true
  pub answers : replies now ≡ replies before

module _ (parameters : List Parameter) (befores values : List ℕ) (after : ℕ) (last : Bool) (before : List Item) where
  pub none_offered : length befores ≡ length values → list_all (is_among parameters) before ≡ true → AreOffered parameters befores values after last before before befores 0
  none_offered long among = record { done = refl; long = long; among = among; follow = λ firsts is. is; only = λ test all. all; answers = refl }

  -- the same parameter again, where its value is the one that was echoed
  pub not_offered : (now : List Item) (echoes : List ℕ) (place : ℕ) (d : Parameter) → AreOffered parameters befores values after last before now echoes place → place < length parameters → length values ≡ length parameters
      → get_or echoes place 0 ≡ get_or values place 0 → AreOffered parameters befores values after last before now echoes (place + 1)
  not_offered now echoes place d are within sizes same =
      let long : length echoes ≡ length values = are.long in
      let there : place < length echoes = omega arith in
      let here : place < length values = omega arith in
      record {
        done = take_more echoes place 0 there ∙ (λ i. are.done i ++ same i ∷ []) ∙ sym (take_more values place 0 here);
        long = long;
        among = are.among;
        follow = are.follow;
        only = λ test all. subst (λ (more : List Item). list_all test (now ++ more) ≡ true) (unchanged_at after last parameters echoes values place d within there here same) (are.only test all);
        answers = are.answers;
      }

  -- an echo more
  pub one_offered : (sent kept : List Item) (echoes : List ℕ) (place : ℕ) (d : Parameter) → AreOffered parameters befores values after last before (sent ++ kept) echoes place
      → IsDistinct is_same parameters → place < length parameters → length values ≡ length parameters → (get_or echoes place 0 ≡ get_or values place 0 → ⊥) → (now : List Item)
      → now ≡ sent ++ put (Echo (get_or parameters place d).node (get_or parameters place d).id (get_or values place 0) after last) kept
      → ((other : Parameter) → last_value now other ≡ option_or (value_for other (Echo (get_or parameters place d).node (get_or parameters place d).id (get_or values place 0) after last)) (last_value (sent ++ kept) other))
      → replies now ≡ replies (sent ++ kept) ++ []
      → AreOffered parameters befores values after last before now (set echoes place (get_or values place 0)) (place + 1)
  one_offered sent kept echoes place d are apart within sizes changed now is lasts answers =
      let value : ℕ = get_or values place 0 in
      let one : Parameter = get_or parameters place d in
      let echo : Item = Echo one.node one.id value after last in
      let long : length echoes ≡ length values = are.long in
      let there : place < length echoes = omega arith in
      let here : place < length values = omega arith in
      let this : is_among parameters echo ≡ true = list_any_at (is_same one) parameters place d within (is_itself one) in
      record {
        done = take_more_set echoes place value there ∙ (λ i. are.done i ++ value ∷ []) ∙ sym (take_more values place 0 here);
        long = length-set echoes place value ∙ long;
        among = subst (λ (items : List Item). list_all (is_among parameters) items ≡ true) (sym is) (offered_all (is_among parameters) sent kept echo are.among this);
        follow = λ firsts first.
            same_followed (last_value now) (λ other. option_or (value_for other echo) (last_value (sent ++ kept) other)) lasts parameters firsts
            ∙ echo_at parameters place d value after last (last_value (sent ++ kept)) firsts apart within
            ∙ ap (λ (ones : List ℕ). set ones place value) (are.follow firsts first);
        only = λ test all.
            let rest : List Item = changes after last (drop (place + 1) parameters) (drop (place + 1) echoes) (drop (place + 1) values) in
            let parts = all_parts test (sent ++ kept) (echo ∷ rest) (subst (λ (more : List Item). list_all test ((sent ++ kept) ++ more) ≡ true) (changed_at after last parameters echoes values place d within there here changed) (are.only test all)) in
            let both = and_parts (test echo) (list_all test rest) parts.1 in
            let same : drop (place + 1) (set echoes place value) ≡ drop (place + 1) echoes = drop-set-lt (place + 1) echoes place value (omega arith) in
            all_both test now (changes after last (drop (place + 1) parameters) (drop (place + 1) (set echoes place value)) (drop (place + 1) values))
            (subst (λ (items : List Item). list_all test items ≡ true) (sym is) (offered_all test sent kept echo parts.0 both.0))
            (subst (λ (ones : List ℕ). list_all test (changes after last (drop (place + 1) parameters) ones (drop (place + 1) values)) ≡ true) (sym same) both.1);
        answers = answers ∙ append-nil (replies (sent ++ kept)) ∙ are.answers;
      }

  -- at the end
  pub only_offered : (now : List Item) (echoes : List ℕ) (place : ℕ) → AreOffered parameters befores values after last before now echoes place → length parameters ≤ place
      → (test : Item → Bool) → list_all test (before ++ changes after last parameters befores values) ≡ true → list_all test now ≡ true
  only_offered now echoes place are beyond test all =
      (all_parts test now (changes after last (drop place parameters) (drop place echoes) (drop place values)) (are.only test all)).0

  pub echoed_all : (now : List Item) (echoes : List ℕ) (place : ℕ) → AreOffered parameters befores values after last before now echoes place → length values ≤ place → echoes ≡ values
  echoed_all now echoes place are beyond =
      let long : length echoes ≡ length values = are.long in
      sym (take_all place echoes (omega arith)) ∙ are.done ∙ take_all place values beyond

-- so with one item more
pub offered_more : (test : Item → Bool) (sent kept : List Item) (item : Item) → list_all test ((sent ++ kept) ++ item ∷ []) ≡ true → list_all test (sent ++ put item kept) ≡ true
offered_more test sent kept item all =
    let parts = all_parts test (sent ++ kept) (item ∷ []) all in
    offered_all test sent kept item parts.0 (and_parts (test item) true parts.1).0

-- What each turn of putting nodes in order keeps.
use Rattle.std.proofs.Common.{◌≡◌, ◌∙◌, ℕ, zero, suc, ◌+◌, ◌-◌, ◌<◌, ◌≤◌, Bool, true, false, cond, List, [], ◌∷◌, ◌++◌, drop, set, length, get_or, replicate, refl, sym, ap, subst, arith, true≢false, ◌==◌, BTreeSet, Ordering, Less, Equal, Greater}
use Rattle.std.specs.Prelude.{Contains, Vec}
use Rattle.std.specs.List.{range_with_len, list_any}
use Rattle.std.specs.BTreeMap.{is_at}
use Rattle.std.specs.declared.alloc.Global.{Global}
use Rattle.std.specs.BTreeSet.{contains, IsLowerBound, Updates}
use Rattle.std.specs.Ordering.{nat_cmp, is_gt, MatchOrdering}
use Rattle.std.specs.Cmp.{ranks, unsigned_tied}
use mathlib.Core.Bool.{beq}
use Rattle.std.proofs.Math.Seq.{drop-cons}
use Rattle.std.proofs.lemmas.List.{length-replicate, length-set}
use Rattle.std.proofs.lemmas.List.FromFn.{get_or-range_with_len, length-range_with_len}
use Rattle.std.proofs.lemmas.List.Elements.{Contains-get_or}
use Rattle.vh_graph.specs.declared.order.Placing.{Placing}
use Rattle.vh_graph.specs.Paths.{sources_of, AreLinked}
use Rattle.vh_graph.specs.Order.{IsOrder}
use Rattle.vh_graph.specs.Steps.{IsLooked, IsBegun}
use Rattle.vh_graph.proofs.Ready.{ends_below, first}
use Rattle.vh_graph.proofs.Placed.{IsPlacing, IsSeen, IsTaken, waits_for, looked, taken, placing_none, placed_less, is_order, no_order}

pub record KeepsPlacing (lists : List (Vec ℕ Global)) (placing : Placing) (pending : List ℕ) : Type 0 where
  pub stands_long : length placing.stands.items ≡ length lists
  pub passed_long : length placing.passed.items ≡ length lists
  pub waiting_long : length placing.waiting.items ≡ length lists
  pub keeps : (wires : List (ℕ × ℕ)) → AreLinked wires lists → IsPlacing (length lists) wires placing.order.items placing.stands.items placing.passed.items placing.waiting.items (contains nat_cmp placing.ready) pending

no_true : (n x : ℕ) → get_or (replicate n false) x false ≡ false
no_true zero x = refl
no_true (suc n) zero = refl
no_true (suc n) (suc x) = no_true n x

all_zero : (n x : ℕ) → get_or {A = ℕ} (replicate n 0) x 0 ≡ 0
all_zero zero x = refl
all_zero (suc n) zero = refl
all_zero (suc n) (suc x) = all_zero n x

pub begun : (lists : List (Vec ℕ Global)) (placing : Placing) → IsBegun (length lists) placing → KeepsPlacing lists placing (range_with_len 0 (length lists))
begun lists placing is =
    let n = length lists in
    record {
      stands_long = ap (λ b. length b) is.stands ∙ length-replicate n false;
      passed_long = ap (λ b. length b) is.passed ∙ length-replicate n 0;
      waiting_long = is.waiting;
      keeps = λ wires linked. subst (λ order. IsPlacing n wires order placing.stands.items placing.passed.items placing.waiting.items (contains nat_cmp placing.ready) (range_with_len 0 n)) (sym is.order)
          (placing_none n wires placing.stands.items placing.passed.items placing.waiting.items (contains nat_cmp placing.ready) (range_with_len 0 n)
          (λ x. ap (λ b. get_or b x false) is.stands ∙ no_true n x)
          (λ x. ap (λ b. get_or b x 0) is.passed ∙ all_zero n x)
          (λ x e lt. is.nothing x e (let l = is.waiting in omega (arith, lt, l)))
          is.ready
          (λ x lt. (x, (let l = length-range_with_len 0 n in omega (arith, lt, l)), get_or-range_with_len 0 n x x lt ∙ (let z : 0 + x ≡ x = omega arith in z)))
          (λ x has.
          let l = length-range_with_len 0 n in
          let kl = has.1 in
          let kn : has.0 < n = omega (arith, kl, l) in
          let same : has.0 ≡ x = (let z : has.0 ≡ 0 + has.0 = omega arith in z) ∙ sym (get_or-range_with_len 0 n has.0 x kn) ∙ has.2 in
          omega (arith, kn, same)));
    }

pub looked_on : (lists : List (Vec ℕ Global)) (before after : Placing) (node : ℕ) (sources pending : List ℕ) (d : Vec ℕ Global) → node < length lists → sources ≡ (get_or lists node d).items → IsLooked node sources before after
    → KeepsPlacing lists before (node ∷ pending) → KeepsPlacing lists after pending
looked_on lists before after node sources pending d lt of are is =
    let to = are.passed.0 in
    let passes = are.passed.1 in
    let now = are.passed.2 in
    let sent = are.passed.3 in
    record {
      stands_long = ap (λ v. length v.items) are.stands ∙ is.stands_long;
      passed_long = ap (λ b. length b) now ∙ length-set before.passed.items node to ∙ is.passed_long;
      waiting_long = sent.long ∙ is.waiting_long;
      keeps = λ wires linked.
          let same : sources ≡ sources_of wires node = of ∙ linked.sources node d lt in
          let seen : IsSeen node sources before.stands.items before.passed.items after.passed.items before.waiting.items after.waiting.items (contains nat_cmp before.ready) (contains nat_cmp after.ready) to = record {
            passes = passes;
            now_passed = now;
            now_ready = sent.ready;
            now_waits = sent.waits;
            others = sent.others;
          } in
          let go = looked (length lists) wires before.order.items before.stands.items before.passed.items after.passed.items before.waiting.items after.waiting.items (contains nat_cmp before.ready) (contains nat_cmp after.ready) node to pending
          (λ x s wire. (ends_below (length lists) wires linked.ends x s wire).0) (let l = is.passed_long in omega (arith, lt, l))
          (subst (λ ns. IsSeen node ns before.stands.items before.passed.items after.passed.items before.waiting.items after.waiting.items (contains nat_cmp before.ready) (contains nat_cmp after.ready) to) same seen)
          (is.keeps wires linked) in
          subst (λ o. IsPlacing (length lists) wires o after.stands.items after.passed.items after.waiting.items (contains nat_cmp after.ready) pending) (ap (λ v. v.items) (sym are.order))
          (subst (λ b. IsPlacing (length lists) wires before.order.items b after.passed.items after.waiting.items (contains nat_cmp after.ready) pending) (ap (λ v. v.items) (sym are.stands)) go);
    }

-- what a look at a node needs
pub look_fits : (lists : List (Vec ℕ Global)) (placing : Placing) (node : ℕ) (sources pending : List ℕ) (d : Vec ℕ Global) (wires : List (ℕ × ℕ)) → AreLinked wires lists → node < length lists → sources ≡ (get_or lists node d).items → KeepsPlacing lists placing pending
    → get_or placing.passed.items node 0 ≤ length sources
look_fits lists placing node sources pending d wires linked lt of is = subst (λ ns. get_or placing.passed.items node 0 ≤ length ns) (sym (of ∙ linked.sources node d lt)) ((is.keeps wires linked).fits node)

pub look_within : (lists : List (Vec ℕ Global)) (node : ℕ) (sources : List ℕ) (d : Vec ℕ Global) (wires : List (ℕ × ℕ)) → AreLinked wires lists → node < length lists → sources ≡ (get_or lists node d).items
    → (k e : ℕ) → k < length sources → get_or sources k e < length lists
look_within lists node sources d wires linked lt of k e kl = (ends_below (length lists) wires linked.ends node (get_or sources k e) (subst (λ ns. Contains ns (get_or sources k e)) (of ∙ linked.sources node d lt) (Contains-get_or sources k e kl))).0

-- whatever is pending is a node
pub pending_below : (lists : List (Vec ℕ Global)) (placing : Placing) (node : ℕ) (pending : List ℕ) (wires : List (ℕ × ℕ)) → AreLinked wires lists → KeepsPlacing lists placing (node ∷ pending) → node < length lists
pending_below lists placing node pending wires linked is = ((is.keeps wires linked).open_ node (first node pending)).0

pub record IsTook (before after : Placing) (node : ℕ) : Type 0 where
  pub now_order : after.order.items ≡ before.order.items ++ node ∷ []
  pub now_passed : after.passed.items ≡ before.passed.items
  pub taken : IsTaken before.stands.items after.stands.items before.waiting.items after.waiting.items (contains nat_cmp before.ready) (contains nat_cmp after.ready) node
  pub waiting_long : length after.waiting.items ≡ length before.waiting.items

pub taken_on : (lists : List (Vec ℕ Global)) (before after : Placing) (node : ℕ) (empty : Vec ℕ Global) → IsTook before after node → KeepsPlacing lists before [] → KeepsPlacing lists after (waits_for before.waiting.items node empty)
taken_on lists before after node empty are is = record {
  stands_long = ap (λ b. length b) are.taken.now_stands ∙ length-set before.stands.items node true ∙ is.stands_long;
  passed_long = ap (λ b. length b) are.now_passed ∙ is.passed_long;
  waiting_long = are.waiting_long ∙ is.waiting_long;
  keeps = λ wires linked.
      let go = taken (length lists) wires before.order.items before.stands.items after.stands.items before.passed.items before.waiting.items after.waiting.items (contains nat_cmp before.ready) (contains nat_cmp after.ready) node empty
      (sym is.stands_long) (sym is.waiting_long) are.taken (is.keeps wires linked) in
      subst (λ o. IsPlacing (length lists) wires o after.stands.items after.passed.items after.waiting.items (contains nat_cmp after.ready) (waits_for before.waiting.items node empty)) (sym are.now_order)
      (subst (λ p. IsPlacing (length lists) wires (before.order.items ++ node ∷ []) after.stands.items p after.waiting.items (contains nat_cmp after.ready) (waits_for before.waiting.items node empty)) (sym are.now_passed) go);
}

pub order_less : (lists : List (Vec ℕ Global)) (placing : Placing) (pending : List ℕ) (wires : List (ℕ × ℕ)) → AreLinked wires lists → KeepsPlacing lists placing pending → length placing.order.items ≤ length lists
order_less lists placing pending wires linked is = placed_less (length lists) wires placing.order.items placing.stands.items placing.passed.items placing.waiting.items (contains nat_cmp placing.ready) pending (is.keeps wires linked)

pub finds_order : (lists : List (Vec ℕ Global)) (placing : Placing) (wires : List (ℕ × ℕ)) → AreLinked wires lists → KeepsPlacing lists placing [] → ((x : ℕ) → x < length lists → get_or placing.stands.items x false ≡ true) → IsOrder (length lists) wires placing.order.items
finds_order lists placing wires linked is all = is_order (length lists) wires placing.order.items placing.stands.items placing.passed.items placing.waiting.items (contains nat_cmp placing.ready) (is.keeps wires linked) all

pub finds_none : (lists : List (Vec ℕ Global)) (placing : Placing) (wires : List (ℕ × ℕ)) (x : ℕ) (empty : Vec ℕ Global) → AreLinked wires lists → KeepsPlacing lists placing [] → ((y : ℕ) → contains nat_cmp placing.ready y ≡ false) → x < length lists → get_or placing.stands.items x false ≡ false
    → ¬ ((whole : List ℕ) × IsOrder (length lists) wires whole)
finds_none lists placing wires x empty linked is none lt gone = no_order (length lists) wires placing.order.items placing.stands.items placing.passed.items placing.waiting.items (contains nat_cmp placing.ready) x empty linked.ends (is.keeps wires linked) none lt gone

pub range_next : (node n : ℕ) → node < n → range_with_len node (n - node) ≡ node ∷ range_with_len (node + 1) (n - (node + 1))
range_next node n lt = let e : n - node ≡ suc (n - (node + 1)) = omega (arith, lt) in ap (λ m. range_with_len node m) e

pub range_done : (node n : ℕ) → n ≤ node → range_with_len node (n - node) ≡ []
range_done node n ge = let e : n - node ≡ 0 = omega (arith, ge) in ap (λ m. range_with_len node m) e

pub drop_next : (xs : List ℕ) (i d : ℕ) → i < length xs → drop i xs ≡ get_or xs i d ∷ drop (i + 1) xs
drop_next xs i d lt = drop-cons xs i d lt ∙ (let e : suc i ≡ i + 1 = omega arith in ap (λ m. get_or xs i d ∷ drop m xs) e)

below_of : (x y : ℕ) (o : Ordering) → MatchOrdering o (x < y) (x ≡ y) (y < x) → is_gt o ≡ false → x ≤ y
below_of x y Less is not = omega (arith, is)
below_of x y Equal is not = omega (arith, is)
below_of x y Greater is not = absurd (true≢false not)

-- the least of a set that was taken from it
pub taken_least : (before : BTreeSet ℕ) (node : ℕ) → IsLowerBound nat_cmp before node → (x : ℕ) → contains nat_cmp before x ≡ true → node ≤ x
taken_least before node least x has = below_of node x (nat_cmp node x) (ranks node x) (least x has)

pub taken_rest : (before after : BTreeSet ℕ) (node : ℕ) → Updates nat_cmp before after node false → (x : ℕ) → contains nat_cmp after x ≡ cond (node == x) false (contains nat_cmp before x)
taken_rest before after node updates x = updates.0 x ∙ ap (λ t. cond t false (contains nat_cmp before x)) (unsigned_tied node x)

pub ready_below : (lists : List (Vec ℕ Global)) (placing : Placing) (node : ℕ) (pending : List ℕ) (wires : List (ℕ × ℕ)) → AreLinked wires lists → KeepsPlacing lists placing pending → contains nat_cmp placing.ready node ≡ true → node < length lists
ready_below lists placing node pending wires linked is has = ((is.keeps wires linked).is_ready node has).within

no_key : (keys : List ℕ) (test : ℕ → Bool) → ¬ (0 < length keys) → list_any test keys ≡ false
no_key [] test none = refl
no_key (k ∷ ks) test none = absurd (none (omega arith))

pub has_none : (set : BTreeSet ℕ) → ¬ (0 < length set.keys) → (y : ℕ) → contains nat_cmp set y ≡ false
has_none set none y = no_key set.keys (is_at (nat_cmp y)) none

pub not_false : (b : Bool) → beq b false ≡ false → b ≡ true
not_false true is = refl
not_false false is = absurd (true≢false is)

pub is_false : (b : Bool) → beq b false ≡ true → b ≡ false
is_false true is = absurd (true≢false (sym is))
is_false false is = refl

use Rattle.std.proofs.Common.{rules, ◌≡◌, ◌≤◌, ◌<◌, ◌++◌, ◌∙◌, ℕ, Bool, [], ◌∷◌, drop, length, get_or, refl, sym, ap, subst, arith, false, true, ◌-◌, ◌+◌, true≢false}
use Rattle.std.specs.List.{range_with_len}
use Rattle.std.specs.BTreeSet.{contains}
use Rattle.std.specs.Vec.{with_item}
use mathlib.Core.Bool.{beq}
use Rattle.std.specs.Ordering.{nat_cmp}
use Rattle.std.proofs.lemmas.List.{get_or_default, length-set, length-append, get_or-set_same, get_or-set_other}
use Rattle.vh_graph.specs.declared.order.Placing.{Placing}
use Rattle.vh_graph.proofs.Placed.{waits_for}
use Rattle.vh_graph.proofs.Turns.{KeepsPlacing, begun, looked_on, look_fits, look_within, pending_below, IsTook, taken_on, order_less, finds_order, finds_none, range_next, range_done, drop_next, taken_least, taken_rest, ready_below, has_none, is_false, not_false}
use Rattle.vh_graph.proofs.order.order_of.Goals as goal

pub loop-node-init : goal.loop-node-init
loop-node-init c =
    let lists = c.args.sources.now in
    let all : length lists - 0 ≡ length lists = omega arith in
    subst (λ n. KeepsPlacing lists c.in_ok-placing.placing (range_with_len 0 n)) (sym all) (begun lists c.in_ok-placing.placing c.in_ok-placing.ensures.begun)

pub look-requires-clause-within : goal.look-requires-clause-within
look-requires-clause-within c =
    let lists = c.args.sources.now in
    let node = c.loop-node.node in
    let lt : node < length lists = search rules in
    let of : c.deref.result.now ≡ (get_or lists node c.index-sources-node.result).items = search rules in
    let long = c.loop-node.invariant.stands_long in
    λ k d kl. subst (λ n. get_or c.deref.result.now k d < n) (sym long) (look_within lists node c.deref.result.now c.index-sources-node.result c.requires.linked.0 c.requires.linked.1 lt of k d kl)

pub look-requires-clause-place : goal.look-requires-clause-place
look-requires-clause-place c =
    let lists = c.args.sources.now in
    let node = c.loop-node.node in
    let lt : node < length lists = search rules in
    let of : c.deref.result.now ≡ (get_or lists node c.index-sources-node.result).items = search rules in
    look_fits lists c.loop-node.placing node c.deref.result.now (range_with_len node (length lists - node)) c.index-sources-node.result c.requires.linked.0 c.requires.linked.1 lt of c.loop-node.invariant

pub loop-node-preserved : goal.loop-node-preserved
loop-node-preserved c =
    let lists = c.args.sources.now in
    let node = c.loop-node.node in
    let lt : node < length lists = search rules in
    let of : c.deref.result.now ≡ (get_or lists node c.index-sources-node.result).items = search rules in
    looked_on lists c.loop-node.placing c.look.new.self node c.deref.result.now (range_with_len (node + 1) (length lists - (node + 1))) c.index-sources-node.result lt of c.in_ok-look.ensures.looked
    (subst (λ ns. KeepsPlacing lists c.loop-node.placing ns) (range_next node (length lists) lt) c.loop-node.invariant)

pub loop-node-2-init : goal.loop-node-2-init
loop-node-2-init c =
    let lists = c.args.sources.now in
    let done : length lists ≤ c.loop-node.node = search rules in
    subst (λ ns. KeepsPlacing lists c.loop-node.placing ns) (range_done c.loop-node.node (length lists) done) c.loop-node.invariant

pub bounds-sources-next : goal.bounds-sources-next
bounds-sources-next c =
    let lists = c.args.sources.now in
    let items = c.deref-next-items.result.now in
    let i = c.loop-next.next-index in
    let lt : i < length items = search rules in
    let next = drop_next items i 0 lt in
    pending_below lists c.loop-next.placing (get_or items i 0) (drop (i + 1) items) c.requires.linked.0 c.requires.linked.1 (subst (λ ns. KeepsPlacing lists c.loop-next.placing ns) next c.loop-next.invariant.0)

pub loop-next-init : goal.loop-next-init
loop-next-init c =
    let lists = c.args.sources.now in
    let before = c.loop-node-2.placing in
    let node = c.in-Some.node in
    let after : Placing = record {
      order = c.push.new.self;
      stands = with_item before.stands node true;
      passed = before.passed;
      waiting = with_item before.waiting node c.replace-waiting.new.dest;
      ready = c.pop_first.new.self;
    } in
    let has : contains nat_cmp before.ready node ≡ true = search rules in
    let lt : node < length lists = ready_below lists before node [] c.requires.linked.0 c.requires.linked.1 c.loop-node-2.invariant has in
    let many = c.loop-node-2.invariant.waiting_long in
    let within : node < length before.waiting.items = omega (arith, lt, many) in
    let none : c.replace-waiting.new.dest.items ≡ [] = search rules in
    let took : IsTook before after node = record {
      now_order = search rules;
      now_passed = refl;
      taken = record {
        was = has;
        lowest = taken_least before.ready node c.in-Some.ensures.least;
        now_stands = search rules;
        now_ready = taken_rest before.ready after.ready node c.in-Some.ensures.updates;
        now_none = λ e. ap (λ v. v.items) (get_or-set_same before.waiting.items node c.replace-waiting.new.dest e within) ∙ none;
        others = λ x e differ. get_or-set_other before.waiting.items node x c.replace-waiting.new.dest e differ;
      };
      waiting_long = length-set before.waiting.items node c.replace-waiting.new.dest;
    } in
    let e = c.new-in-Some.result in
    let items : waits_for before.waiting.items node e ≡ c.deref-next-items.result.now =
    ap (λ v. v.items) (get_or_default before.waiting.items node e c.index_mut-in-Some.result.now within ∙ sym c.index_mut-in-Some.ensures.value ∙ sym c.replace-waiting.ensures.value) ∙ sym c.deref-next-items.ensures.value in
    (subst (λ ns. KeepsPlacing lists after ns) items (taken_on lists before after node e took c.loop-node-2.invariant), refl)

pub index_mut-requires : goal.index_mut-requires
index_mut-requires c =
    let lists = c.args.sources.now in
    let before = c.loop-node-2.placing in
    let node = c.in-Some.node in
    let has : contains nat_cmp before.ready node ≡ true = search rules in
    let lt : node < length lists = ready_below lists before node [] c.requires.linked.0 c.requires.linked.1 c.loop-node-2.invariant has in
    let many = c.loop-node-2.invariant.stands_long in
    let fits : node < length before.stands.items = omega (arith, lt, many) in
    search rules

pub index_mut-requires-in-Some : goal.index_mut-requires-in-Some
index_mut-requires-in-Some c =
    let lists = c.args.sources.now in
    let before = c.loop-node-2.placing in
    let node = c.in-Some.node in
    let has : contains nat_cmp before.ready node ≡ true = search rules in
    let lt : node < length lists = ready_below lists before node [] c.requires.linked.0 c.requires.linked.1 c.loop-node-2.invariant has in
    let many = c.loop-node-2.invariant.waiting_long in
    let fits : node < length before.waiting.items = omega (arith, lt, many) in
    search rules

pub look-requires-in-loop-next-clause-node : goal.look-requires-in-loop-next-clause-node
look-requires-in-loop-next-clause-node c =
    let lists = c.args.sources.now in
    let items = c.deref-next-items.result.now in
    let i = c.loop-next.next-index in
    let lt : i < length items = search rules in
    let below = pending_below lists c.loop-next.placing (get_or items i 0) (drop (i + 1) items) c.requires.linked.0 c.requires.linked.1 (subst (λ ns. KeepsPlacing lists c.loop-next.placing ns) (drop_next items i 0 lt) c.loop-next.invariant.0) in
    let long = c.loop-next.invariant.0.passed_long in
    omega (arith, below, long)

pub look-requires-in-loop-next-clause-within : goal.look-requires-in-loop-next-clause-within
look-requires-in-loop-next-clause-within c =
    let lists = c.args.sources.now in
    let items = c.deref-next-items.result.now in
    let i = c.loop-next.next-index in
    let node = get_or items i 0 in
    let lt : i < length items = search rules in
    let below = pending_below lists c.loop-next.placing node (drop (i + 1) items) c.requires.linked.0 c.requires.linked.1 (subst (λ ns. KeepsPlacing lists c.loop-next.placing ns) (drop_next items i 0 lt) c.loop-next.invariant.0) in
    let of : c.deref-in-loop-next.result.now ≡ (get_or lists node c.index-sources-next.result).items = search rules in
    λ k d kl. subst (λ n. get_or c.deref-in-loop-next.result.now k d < n) (sym c.loop-next.invariant.0.stands_long) (look_within lists node c.deref-in-loop-next.result.now c.index-sources-next.result c.requires.linked.0 c.requires.linked.1 below of k d kl)

pub look-requires-in-loop-next-clause-place : goal.look-requires-in-loop-next-clause-place
look-requires-in-loop-next-clause-place c =
    let lists = c.args.sources.now in
    let items = c.deref-next-items.result.now in
    let i = c.loop-next.next-index in
    let node = get_or items i 0 in
    let lt : i < length items = search rules in
    let below = pending_below lists c.loop-next.placing node (drop (i + 1) items) c.requires.linked.0 c.requires.linked.1 (subst (λ ns. KeepsPlacing lists c.loop-next.placing ns) (drop_next items i 0 lt) c.loop-next.invariant.0) in
    let of : c.deref-in-loop-next.result.now ≡ (get_or lists node c.index-sources-next.result).items = search rules in
    look_fits lists c.loop-next.placing node c.deref-in-loop-next.result.now (drop i items) c.index-sources-next.result c.requires.linked.0 c.requires.linked.1 below of c.loop-next.invariant.0

pub loop-next-preserved : goal.loop-next-preserved
loop-next-preserved c =
    let lists = c.args.sources.now in
    let items = c.deref-next-items.result.now in
    let i = c.loop-next.next-index in
    let node = get_or items i 0 in
    let lt : i < length items = search rules in
    let is = subst (λ ns. KeepsPlacing lists c.loop-next.placing ns) (drop_next items i 0 lt) c.loop-next.invariant.0 in
    let below = pending_below lists c.loop-next.placing node (drop (i + 1) items) c.requires.linked.0 c.requires.linked.1 is in
    let of : c.deref-in-loop-next.result.now ≡ (get_or lists node c.index-sources-next.result).items = search rules in
    let are = c.in_ok-look-2.ensures.looked in
    (looked_on lists c.loop-next.placing c.look-in-loop-next.new.self node c.deref-in-loop-next.result.now (drop (i + 1) items) c.index-sources-next.result below of are is, ap (λ v. v.items) are.order ∙ c.loop-next.invariant.1)

pub loop-node-2-smaller : goal.loop-node-2-smaller
loop-node-2-smaller c =
    let lists = c.args.sources.now in
    let before = c.loop-node-2.placing in
    let after = c.loop-next.placing in
    let now : after.order.items ≡ before.order.items ++ c.in-Some.node ∷ [] = search rules in
    let more : length after.order.items ≡ length before.order.items + 1 = ap (λ xs. length xs) now ∙ length-append before.order.items (c.in-Some.node ∷ []) in
    let le = order_less lists after (drop c.loop-next.next-index c.deref-next-items.result.now) c.requires.linked.0 c.requires.linked.1 c.loop-next.invariant.0 in
    omega (arith, more, le)

pub returns-then-contains-clause-order : goal.returns-then-contains-clause-order
returns-then-contains-clause-order c =
    let lists = c.args.sources.now in
    let placing = c.loop-node-2.placing in
    let one = c.if-contains.ensures.cases in
    let value : c.deref-2.result.now ≡ placing.stands.items = search rules in
    let long = c.loop-node-2.invariant.stands_long in
    let lt : one.0 < length lists = let l = subst (λ b. one.0 < length b) value one.1 in omega (arith, l, long) in
    let gone : get_or placing.stands.items one.0 false ≡ false = is_false (get_or placing.stands.items one.0 false) (subst (λ b. beq (get_or b one.0 false) false ≡ true) value (one.2 false)) in
    let none = has_none placing.ready (λ some. true≢false (sym (c.in_default.ensures.variant.1 some))) in
    λ wires linked. finds_none lists placing wires one.0 placing.order linked c.loop-node-2.invariant none lt gone

pub returns-else-contains-clause-order : goal.returns-else-contains-clause-order
returns-else-contains-clause-order c =
    let lists = c.args.sources.now in
    let placing = c.loop-node-2.placing in
    let value : c.deref-2.result.now ≡ placing.stands.items = search rules in
    let all = subst (λ b. (k : ℕ) (d : Bool) → 0 ≤ k → k < length b → beq (get_or b k d) false ≡ false) value c.if-contains.ensures.cases in
    let long = c.loop-node-2.invariant.stands_long in
    λ wires linked. finds_order lists placing wires linked c.loop-node-2.invariant (λ x lt. not_false (get_or placing.stands.items x false) (all x false (omega arith) (omega (arith, lt, long))))

pub returns-else-contains-clause-fits : goal.returns-else-contains-clause-fits
returns-else-contains-clause-fits c = order_less c.args.sources.now c.loop-node-2.placing [] c.requires.linked.0 c.requires.linked.1 c.loop-node-2.invariant

use Rattle.std.proofs.Common.{rules, ◌≡◌, ◌∙◌, ℕ, List, length, subst, ap, sym, Vec}
use Rattle.std.specs.Prelude.{None}
use Rattle.std.specs.declared.alloc.Global.{Global}
use Rattle.vh_graph.specs.Paths.{AreLinked}
use Rattle.vh_graph.specs.Order.{IsOrder, FindsOrder}
use Rattle.vh_graph.proofs.Ready.{law_order}
use Rattle.vh_graph.proofs.graph.Graph.new.Goals as goal

pub order_of-requires-clause-linked : goal.order_of-requires-clause-linked
order_of-requires-clause-linked c = (c.args.wires.now, subst (λ ls. AreLinked c.args.wires.now ls) (sym c.deref.ensures.value) c.in_ok-sources.ensures.linked)

pub refused-requires-clause-cyclic : goal.refused-requires-clause-cyclic
refused-requires-clause-cyclic c =
    let none : c.in_ok-found.found ≡ None = search rules in
    let found = c.in_ok-found.ensures.order c.args.wires.now (subst (λ ls. AreLinked c.args.wires.now ls) (sym c.deref.ensures.value) c.in_ok-sources.ensures.linked) in
    let cyclic : ¬ ((order : List ℕ) × IsOrder (length c.deref.result.now) c.args.wires.now order) = subst (λ f. FindsOrder (length c.deref.result.now) c.args.wires.now f) none found in
    let same : c.deref.result.now ≡ c.deref-in_default.result.now = c.deref.ensures.value ∙ sym c.deref-in_default.ensures.value in (
      c.args.wires.now,
      subst (λ ls. AreLinked c.args.wires.now ls) (sym c.deref-in_default.ensures.value) c.in_ok-sources.ensures.linked,
      subst (λ (ls : List (Vec ℕ Global)). ¬ ((order : List ℕ) × IsOrder (length ls) c.args.wires.now order)) same cyclic,
    )

pub returns-in_default-clause-cycle : goal.returns-in_default-clause-cycle
returns-in_default-clause-cycle c = c.refused.ensures c.args.wires.now (subst (λ ls. AreLinked c.args.wires.now ls) (sym c.deref-in_default.ensures.value) c.in_ok-sources.ensures.linked)

pub layers_of-requires-clause-ordered : goal.layers_of-requires-clause-ordered
layers_of-requires-clause-ordered c =
    let order : IsOrder (length c.deref.result.now) c.args.wires.now c.in-Some.order.items =
    subst (λ f. FindsOrder (length c.deref.result.now) c.args.wires.now f) c.in-Some.is (c.in_ok-found.ensures.order c.args.wires.now (subst (λ ls. AreLinked c.args.wires.now ls) (sym c.deref.ensures.value) c.in_ok-sources.ensures.linked)) in
    let same : c.deref.result.now ≡ c.deref-2.result.now = c.deref.ensures.value ∙ sym c.deref-2.ensures.value in (
      c.args.wires.now,
      subst (λ ls. AreLinked c.args.wires.now ls) (sym c.deref-2.ensures.value) c.in_ok-sources.ensures.linked,
      subst (λ o. IsOrder (length c.deref-2.result.now) c.args.wires.now o) (sym c.deref-3.ensures.value) (subst (λ (ls : List (Vec ℕ Global)). IsOrder (length ls) c.args.wires.now c.in-Some.order.items) same order),
    )

pub returns-clause-order : goal.returns-clause-order
returns-clause-order c =
    let order : IsOrder (length c.deref.result.now) c.args.wires.now c.in-Some.order.items =
    subst (λ f. FindsOrder (length c.deref.result.now) c.args.wires.now f) c.in-Some.is (c.in_ok-found.ensures.order c.args.wires.now (subst (λ ls. AreLinked c.args.wires.now ls) (sym c.deref.ensures.value) c.in_ok-sources.ensures.linked)) in
    subst (λ n. IsOrder n c.args.wires.now c.in-Some.order.items) (ap (λ (ls : List (Vec ℕ Global)). length ls) c.deref.ensures.value ∙ c.in_ok-sources.ensures.long) order

pub returns-clause-free : goal.returns-clause-free
returns-clause-free c = (law_order c.args.n c.args.wires.now c.requires.within).0 (c.in-Some.order.items, returns-clause-order c)

pub returns-clause-layers : goal.returns-clause-layers
returns-clause-layers c =
    let order : IsOrder (length c.deref.result.now) c.args.wires.now c.in-Some.order.items =
    subst (λ f. FindsOrder (length c.deref.result.now) c.args.wires.now f) c.in-Some.is (c.in_ok-found.ensures.order c.args.wires.now (subst (λ ls. AreLinked c.args.wires.now ls) (sym c.deref.ensures.value) c.in_ok-sources.ensures.linked)) in
    let same : c.deref.result.now ≡ c.deref-2.result.now = c.deref.ensures.value ∙ sym c.deref-2.ensures.value in
    c.in_ok-layers.ensures.layers c.args.wires.now (subst (λ ls. AreLinked c.args.wires.now ls) (sym c.deref-2.ensures.value) c.in_ok-sources.ensures.linked)
    (subst (λ o. IsOrder (length c.deref-2.result.now) c.args.wires.now o) (sym c.deref-3.ensures.value) (subst (λ (ls : List (Vec ℕ Global)). IsOrder (length ls) c.args.wires.now c.in-Some.order.items) same order))

use Rattle.std.proofs.Common.{rules, ◌≡◌, ◌≤◌, ◌<◌, ◌∙◌, length, get_or, replicate, sym, subst, arith}
use Rattle.std.specs.Prelude.{All}
use Rattle.std.proofs.lemmas.List.{length-set}
use Rattle.std.proofs.lemmas.List.Elements.{All-replicate}
use Rattle.vh_graph.specs.Steps.{IsAbove}
use Rattle.vh_graph.proofs.Layered.{layered_none, layered_more, are_layered, AreLayered, in_order, bound_more}
use Rattle.vh_graph.proofs.Turns.{look_within}
use Rattle.vh_graph.proofs.layer.layers_of.Goals as goal

pub loop-node-init : goal.loop-node-init
loop-node-init c =
    let zeros : c.in_ok-layers.layers.items ≡ replicate (length c.args.sources.now) 0 = search rules in
    (search rules, subst (λ ns. All (λ layer. layer ≤ 0) ns) (sym zeros) (All-replicate (λ layer. layer ≤ 0) (length c.args.sources.now) 0 (omega arith)), λ wires linked order. layered_none wires c.args.order.now c.in_ok-layers.layers.items)

pub bounds-sources-node : goal.bounds-sources-node
bounds-sources-node c = in_order (length c.args.sources.now) c.requires.ordered.0 c.args.order.now c.requires.ordered.2 c.loop-node.node-index c.loop-node-test.true

pub index_mut-requires : goal.index_mut-requires
index_mut-requires c =
    let lt = in_order (length c.args.sources.now) c.requires.ordered.0 c.args.order.now c.requires.ordered.2 c.loop-node.node-index c.loop-node-test.true in
    let long = c.loop-node.invariant.0 in
    let fits : get_or c.args.order.now c.loop-node.node-index 0 < length c.loop-node.layers.items = omega (arith, lt, long) in
    search rules

pub layer_above-requires-clause-within : goal.layer_above-requires-clause-within
layer_above-requires-clause-within c =
    let lists = c.args.sources.now in
    let node = get_or c.args.order.now c.loop-node.node-index 0 in
    let lt = in_order (length lists) c.requires.ordered.0 c.args.order.now c.requires.ordered.2 c.loop-node.node-index c.loop-node-test.true in
    let of : c.deref-in-loop-node.result.now ≡ (get_or lists node c.index-sources-node.result).items = search rules in
    let long = c.loop-node.invariant.0 in
    let value : length c.deref.result.now ≡ length lists = search rules in
    λ k d kl. subst (λ n. get_or c.deref-in-loop-node.result.now k d < n) (sym value) (look_within lists node c.deref-in-loop-node.result.now c.index-sources-node.result c.requires.ordered.0 c.requires.ordered.1 lt of k d kl)

pub layer_above-requires-clause-bound : goal.layer_above-requires-clause-bound
layer_above-requires-clause-bound c k d lt =
    let value : c.deref.result.now ≡ c.loop-node.layers.items = search rules in
    let le = c.loop-node.invariant.1 k d (subst (λ ns. k < length ns) value lt) in
    let is = subst (λ ns. get_or ns k d ≤ c.loop-node.node-index) (sym value) le in
    let il : c.loop-node.node-index < length c.args.order.now = c.loop-node-test.true in
    let fits = c.requires.fits in
    let count = c.requires.count in
    omega (arith, is, il, fits, count)

pub loop-node-preserved : goal.loop-node-preserved
loop-node-preserved c =
    let lists = c.args.sources.now in
    let layers = c.loop-node.layers.items in
    let i = c.loop-node.node-index in
    let node = get_or c.args.order.now i 0 in
    let v = c.layer_above.result in
    let il = c.loop-node-test.true in
    let lt = in_order (length lists) c.requires.ordered.0 c.args.order.now c.requires.ordered.2 i il in
    let of : c.deref-in-loop-node.result.now ≡ (get_or lists node c.index-sources-node.result).items = search rules in
    let value : c.deref.result.now ≡ layers = search rules in
    let above : IsAbove layers c.deref-in-loop-node.result.now v = subst (λ ns. IsAbove ns c.deref-in-loop-node.result.now v) value c.layer_above.ensures in
    let long = c.loop-node.invariant.0 in (
      length-set layers node v ∙ long,
      bound_more layers c.deref-in-loop-node.result.now node v i c.loop-node.invariant.1 above (λ k d kl. subst (λ n. get_or c.deref-in-loop-node.result.now k d < n) (sym long) (look_within lists node c.deref-in-loop-node.result.now c.index-sources-node.result c.requires.ordered.0 c.requires.ordered.1 lt of k d kl)),
      (λ wires linked order. layered_more (length lists) wires c.args.order.now layers i v order il long (c.loop-node.invariant.2 wires linked order)
          (subst (λ ns. IsAbove layers ns v) (of ∙ linked.sources node c.index-sources-node.result lt) above)),
    )

pub returns-clause-layers : goal.returns-clause-layers
returns-clause-layers c wires linked order =
    let done : length c.args.order.now ≡ c.loop-node.node-index = search rules in
    are_layered (length c.args.sources.now) wires c.args.order.now c.loop-node.layers.items linked.ends order c.loop-node.invariant.0 (subst (λ n. AreLayered wires c.args.order.now n c.loop-node.layers.items) (sym done) (c.loop-node.invariant.2 wires linked order))

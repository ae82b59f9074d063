use Rattle.std.proofs.Common.{◌≡◌, ◌∙◌, ℕ, suc, ◌+◌, ◌<◌, false, All, sym, ap, subst, arith}
use Rattle.std.proofs.lemmas.List.Elements.{All-push}
use Rattle.vh_session.specs.declared.wire.End.{End}
use Rattle.vh_session.specs.declared.wire.End.TheVariants.{Node as AtNode}
use Rattle.vh_session.specs.declared.wire.Wire.{Wire}
use Rattle.vh_gen.specs.Draws.{draw}
use Rattle.vh_gen.specs.Nodes.{kind_at, wire_in, source_from, behind_node, node_state}
use Rattle.vh_gen.proofs.Grown.{one_more}
use Rattle.vh_gen.proofs.graph.draw_graph.Goals as goal

pub loop-node-preserved : goal.loop-node-preserved
loop-node-preserved c =
    let inv = c.loop-node.invariant in
    let drawn = c.draw_node-kind.ensures in
    let node : ℕ = c.loop-node.node in
    let state : ℕ = c.args.draws.now.state in
    let P : ℕ → Type 0 = λ kind. kind < 8 in
    let to : End → Wire = λ from. record { from = from; to = AtNode node; aux = false } in
    record {
      kinds = one_more (kind_at state) c.loop-node.kinds.items c.push.new.self.items c.draw_node-kind.result.0 node inv.kinds c.in_ok-push.ensures.items (drawn.kind ∙ ap (λ s. draw s 0 8) inv.state);
      within = subst (λ l. All P l) (sym c.in_ok-push.ensures.items) (All-push P c.loop-node.kinds.items c.draw_node-kind.result.0 inv.within drawn.within);
      wires = one_more (wire_in state) c.loop-node.wires.items c.push-in-loop-node.new.self.items c.wire.result node inv.wires c.in_ok-push-2.ensures.items (c.wire.ensures ∙ ap to (drawn.source ∙ ap (λ s. source_from s node) inv.state));
      state = drawn.state ∙ ap (behind_node node) inv.state ∙ (let e : suc node ≡ node + 1 = omega arith in ap (node_state state) e);
    }

use Rattle.std.proofs.Common.{rules, ◌≡◌, ◌∙◌, ◌<◌, ◌++◌, ◌∷◌, [], ℕ, List, sym, subst, ap, false}
use Rattle.std.specs.Prelude.{All, Some, None, IfSome}
use Rattle.std.proofs.lemmas.List.Elements.{All-push}
use Rattle.vh_session.specs.declared.wire.Wire.{Wire}
use Rattle.vh_session.specs.declared.wire.End.TheVariants.{In}
use Rattle.vh_session.specs.Content.{between_nodes}
use Rattle.vh_session.proofs.Lists.{none_more, some_more}
use Rattle.vh_session.proofs.finish.node_wires.Goals as goal

pub loop-wire-preserved-in_default : goal.loop-wire-preserved-in_default
loop-wire-preserved-in_default c =
    let wires = c.args.wires.now in
    let i = c.loop-wire.wire-index in
    let d : Wire = record { from = In; to = In; aux = false } in
    let none : c.between_nodes.result ≡ None = search rules in
    (c.loop-wire.invariant.0 ∙ sym (none_more between_nodes wires i d c.loop-wire-test.true (sym c.between_nodes.ensures.ends ∙ none)), c.loop-wire.invariant.1)

pub loop-wire-preserved : goal.loop-wire-preserved
loop-wire-preserved c =
    let wires = c.args.wires.now in
    let i = c.loop-wire.wire-index in
    let d : Wire = record { from = In; to = In; aux = false } in
    let pair = c.in-Some.pair in
    let some : c.between_nodes.result ≡ Some pair = search rules in
    let pushed : c.push.new.self.items ≡ c.loop-wire.between.items ++ pair ∷ [] = search rules in
    let within = subst (λ o. IfSome o (λ (p : ℕ × ℕ). (p.0 < c.args.nodes) × (p.1 < c.args.nodes))) some (c.between_nodes.ensures.within c.args.nodes (c.requires i d c.loop-wire-test.true)) in (
      pushed ∙ ap (λ ws. ws ++ pair ∷ []) c.loop-wire.invariant.0 ∙ sym (some_more between_nodes wires i d pair c.loop-wire-test.true (sym c.between_nodes.ensures.ends ∙ some)),
      subst (λ (ws : List (ℕ × ℕ)). All (λ wire. (wire.0 < c.args.nodes) × (wire.1 < c.args.nodes)) ws) (sym pushed) (All-push (λ (wire : ℕ × ℕ). (wire.0 < c.args.nodes) × (wire.1 < c.args.nodes)) c.loop-wire.between.items pair c.loop-wire.invariant.1 within),
    )

use Rattle.std.proofs.Common.{rules, ◌≡◌, ℕ, List, subst}
use Rattle.vh_graph.specs.Paths.{IsOnCycle}
use Rattle.vh_session.specs.Content.{node_wires}
use Rattle.vh_session.proofs.draft.Draft.check_cycles.Goals as goal

pub returns-in-Ok-clause-free : goal.returns-in-Ok-clause-free
returns-in-Ok-clause-free c =
    let same : c.deref-2.result.now ≡ node_wires c.args.self.now.wires.items = search rules in
    subst (λ (ws : List (ℕ × ℕ)). (node : ℕ) → ¬ IsOnCycle ws node) same c.in-Ok.ensures.free

use Rattle.std.proofs.Common.{◌≡◌, ◌∙◌, ◌≤◌, List, length, take, ap, sym, subst}
use Rattle.std.specs.Prelude.{All}
use Rattle.std.proofs.lemmas.List.{take_all}
use Rattle.vh_params.specs.Nodes.{nodes_of}
use Rattle.vh_session.specs.declared.wire.End.{End}
use Rattle.vh_session.specs.declared.wire.Wire.{Wire}
use Rattle.vh_session.specs.Content.{sources_into}
use Rattle.vh_session.specs.Keeps.{Begins}
use Rattle.vh_session.proofs.Wired.{all_begin}
use Rattle.vh_session.proofs.session.Session.sources.Goals as goal

pub returns-clause-there : goal.returns-clause-there
returns-clause-there c =
    let session = c.args.self.now in
    let wires = session.wires.items in
    let all : take c.loop-wire.wire-index wires ≡ wires = take_all c.loop-wire.wire-index wires (subst (λ (ws : List Wire). length ws ≤ c.loop-wire.wire-index) c.deref-wire-items.ensures.value c.loop-wire-test.false) in
    let is : c.loop-wire.sources.items ≡ sources_into wires c.args.to c.args.aux = c.loop-wire.invariant ∙ ap (λ (ws : List Wire). sources_into ws c.args.to c.args.aux) all in
    subst (λ (ends : List End). All (Begins (length (nodes_of session.nodes))) ends) (sym is) (all_begin session c.args.to c.args.aux)

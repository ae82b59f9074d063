use Rattle.std.proofs.Common.{rules, refl, subst, ◌≤◌, ◌≡◌, ◌<◌, length, get_or, ◌∷◌, [], ◌++◌, ◌∙◌}
use Rattle.std.proofs.lemmas.List.{length-set, take_all}
use Rattle.vh_graph.specs.Paths.{AreSources}
use Rattle.vh_graph.proofs.ByNode.{sources_more}
use Rattle.vh_graph.proofs.Refused.{linked}
use Rattle.vh_graph.proofs.wires.sources_by_node.Goals as goal

pub loop-source-init : goal.loop-source-init
loop-source-init c = (c.in_ok-sources.ensures.long, λ node d lt. c.in_ok-sources.ensures.empty node d lt)

pub loop-source-preserved : goal.loop-source-preserved
loop-source-preserved c =
    let i = c.loop-source.source-index in
    let wire = get_or c.args.wires.now i (0, 0) in
    let lists = c.loop-source.sources.items in
    let lt : i < length c.args.wires.now = search rules in
    let inside : wire.1 < length lists = search rules in
    let added : c.push.new.self.items ≡ (get_or lists wire.1 c.push.new.self).items ++ wire.0 ∷ [] = search rules in
    (length-set lists wire.1 c.push.new.self ∙ c.loop-source.invariant.0, sources_more c.args.wires.now i wire lists c.push.new.self lt refl inside added c.loop-source.invariant.1)

pub returns-clause-linked : goal.returns-clause-linked
returns-clause-linked c =
    let all : length c.args.wires.now ≤ c.loop-source.source-index = search rules in
    let are : AreSources c.args.wires.now c.loop-source.sources.items = subst (λ ws. AreSources ws c.loop-source.sources.items) (take_all c.loop-source.source-index c.args.wires.now all) c.loop-source.invariant.1 in
    linked c.args.wires.now c.args.nodes c.loop-source.sources.items c.requires.within c.loop-source.invariant.0 are

use Rattle.std.proofs.Common.{◌≡◌, ◌++◌, drop, map}
use Rattle.vh_params.specs.Nodes.{nodes_of}
use Rattle.vh_session.specs.Content.{firsts_from}
use Rattle.vh_session.proofs.finish.firsts.Given as goal

abbrev pub invariant-loop-node : goal.invariant-loop-node
invariant-loop-node l = l.firsts.items ++ firsts_from l.node (drop l.node (nodes_of l.nodes)) (drop l.node (map (λ mark. mark.firsts.items) l.marks)) ≡ firsts_from 0 (nodes_of l.nodes) (map (λ mark. mark.firsts.items) l.marks)

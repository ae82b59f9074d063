use Rattle.std.proofs.Common.{◌≤◌, ◌^◌, drop}
use Rattle.std.specs.Prelude.{All}
use Rattle.vh_params.specs.Nodes.{nodes_of}
use Rattle.vh_answers.specs.Outside.{voice}
use Rattle.vh_answers.specs.Report.{nodes_text}
use Rattle.vh_answers.proofs.Told.{IsOnTheWay}
use Rattle.vh_answers.proofs.report.say_nodes.Given as goal

abbrev pub invariant-loop-node : goal.invariant-loop-node
invariant-loop-node g l =
    All (λ value. value ≤ 2 ^ 24) l.values
    × IsOnTheWay (voice g.Y.Say l.fn.say) (voice g.Y.Say l.say) (nodes_text (nodes_of l.nodes) l.fn.values l.modes) (nodes_text (drop l.node (nodes_of l.nodes)) l.values (drop l.node l.modes))

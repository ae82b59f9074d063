use Rattle.std.proofs.Common.{◌≡◌, ◌++◌, take}
use Rattle.vh_stage.specs.Parameters.{infos_at}
use Rattle.vh_stage.proofs.parameters.push_parameters.Given as goal

abbrev pub invariant-loop-i : goal.invariant-loop-i
invariant-loop-i l = l.parameters.items ≡ l.initial.parameters.items ++ infos_at l.node (take l.i l.params)

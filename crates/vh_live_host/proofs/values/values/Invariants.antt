use Rattle.std.proofs.Common.{◌≡◌, take}
use Rattle.std.specs.List.{concat}
use Rattle.vh_instance.specs.Band.{of_openers}
use Rattle.vh_live_host.proofs.values.values.Given as goal

abbrev pub invariant-loop-node : goal.invariant-loop-node
invariant-loop-node g l = l.values.items ≡ concat (of_openers g.C.Controller.values (take l.node l.edits))

use Rattle.std.proofs.Common.{◌≡◌, take}
use Rattle.std.specs.List.{flat_map}
use Rattle.vh_counted.specs.Held.{value_of_opened}
use Rattle.vh_instance.proofs.firsts.values_of.Given as goal

abbrev pub invariant-loop-node : goal.invariant-loop-node
invariant-loop-node g l = l.values.items ≡ flat_map (λ edit. g.C.Controller.values (value_of_opened edit)) (take l.node l.edits)

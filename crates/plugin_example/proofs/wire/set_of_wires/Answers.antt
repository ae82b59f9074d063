use Rattle.std.proofs.Common.{refl}
use Rattle.plugin_example.specs.Wires.{wire}
use Rattle.plugin_example.proofs.WireSets.{is_of}
use Rattle.plugin_example.proofs.wire.set_of_wires.Goals as goal

pub invariant_of-result : goal.invariant_of-result
invariant_of-result c = record { one = is_of wire _ _ _ _ _ _ c.in_ok-one_class.ensures refl refl refl refl }

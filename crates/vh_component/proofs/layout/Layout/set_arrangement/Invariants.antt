use Rattle.std.proofs.Common.{◌≡◌, ◌++◌, map, take, drop}
use Rattle.vh_component.specs.Buses.{arranged}
use Rattle.vh_component.proofs.layout.Layout.set_arrangement.Given as goal

abbrev pub invariant-loop-i : goal.invariant-loop-i
invariant-loop-i l = (l.self.len ≡ l.fn.self.len) × (l.self.buses ≡ map (arranged l.ins) (take l.i l.fn.self.buses) ++ drop l.i l.fn.self.buses)

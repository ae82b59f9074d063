use Rattle.std.proofs.Common.{◌≡◌, take, drop}
use Rattle.vh_params.specs.Params.{fault_behind, table_fault}
use Rattle.vh_params.proofs.table.table_fault.Given as goal

abbrev pub invariant-loop-i : goal.invariant-loop-i
invariant-loop-i l = fault_behind l.units (take l.i l.params) (drop l.i l.params) ≡ table_fault l.params l.units

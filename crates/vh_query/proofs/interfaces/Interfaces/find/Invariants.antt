use Rattle.std.proofs.Common.{◌≡◌, take, drop}
use Rattle.vh_query.specs.Found.{found_from}
use Rattle.vh_query.proofs.interfaces.Interfaces.find.Given as goal

abbrev pub invariant-loop-i : goal.invariant-loop-i
invariant-loop-i l = found_from l.i (drop l.i (take l.self.len l.self.list)) l.id.0 ≡ found_from 0 (take l.self.len l.self.list) l.id.0

use Rattle.std.proofs.Common.{◌≡◌, ◌++◌, take, drop}
use Rattle.vh_builtin.specs.Bytes.{pair_values}
use Rattle.vh_builtin.proofs.bytes.take_held.Given as goal

abbrev pub invariant-loop-k : goal.invariant-loop-k
invariant-loop-k l = l.values ≡ take l.k (pair_values l.ids l.bytes 4) ++ drop l.k l.fn.values

use Rattle.std.proofs.Common.{◌≡◌, ◌++◌, drop}
use Rattle.vh_builtin.specs.Bytes.{pair_bytes, text_of}
use Rattle.vh_builtin.proofs.bytes.text_of.Given as goal

abbrev pub invariant-loop-k : goal.invariant-loop-k
invariant-loop-k l = l.bytes.items ++ pair_bytes (drop l.k l.ids) (drop l.k l.values) ≡ text_of l.ids l.values

use Rattle.std.proofs.Common.{◌≡◌, ◌+◌, ◌*◌, drop}
use Rattle.vh_builtin.specs.Bytes.{are_pairs}
use Rattle.vh_builtin.proofs.bytes.is_form.Given as goal

abbrev pub invariant-loop-k : goal.invariant-loop-k
invariant-loop-k l = are_pairs (drop l.k l.ids) l.bytes (4 + 8 * l.k) ≡ are_pairs l.ids l.bytes 4

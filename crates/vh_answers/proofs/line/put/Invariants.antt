use Rattle.std.proofs.Common.{◌≡◌, ◌++◌, take, vec_capacity}
use Rattle.vh_answers.proofs.line.put.Given as goal

abbrev pub invariant-loop-byte : goal.invariant-loop-byte
invariant-loop-byte l = (l.text.items ≡ l.initial.text.items ++ take l.byte-index l.bytes) × (vec_capacity l.text ≡ vec_capacity l.initial.text)

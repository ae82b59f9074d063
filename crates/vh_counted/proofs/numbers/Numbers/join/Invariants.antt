use Rattle.vh_counted.proofs.References.{IsJoined}
use Rattle.vh_counted.proofs.numbers.Numbers.join.Given as goal

abbrev pub invariant-loop-i : goal.invariant-loop-i
invariant-loop-i l = IsJoined l.references l.initial.references l.other.references l.i

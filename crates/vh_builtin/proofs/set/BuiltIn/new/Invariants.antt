use Rattle.vh_builtin.proofs.Names.{AreFirst}
use Rattle.vh_builtin.proofs.set.BuiltIn.new.Given as goal

abbrev pub invariant-loop-number : goal.invariant-loop-number
invariant-loop-number l = AreFirst l.list.items l.number

use Rattle.std.proofs.Common.{◌-◌, length}
use Rattle.vh_files.proofs.Loops.{IsSaying}
use Rattle.vh_files.proofs.whole.say_all.Given as goal

abbrev pub invariant-loop-done : goal.invariant-loop-done
invariant-loop-done g l = IsSaying (g.Y.Say.said l.initial.say) (g.Y.Say.said l.say) l.done l.bytes (g.Y.Say.faults l.initial.say) (g.Y.Say.faults l.say)

abbrev pub decreases-loop-done : goal.decreases-loop-done
decreases-loop-done g l = length l.bytes - l.done

use Rattle.vh_files.proofs.Loops.{IsSaying_more}
use Rattle.vh_files.proofs.whole.say_all.Goals as goal

pub loop-done-preserved : goal.loop-done-preserved
loop-done-preserved g c = IsSaying_more _ _ _ _ _ _ _ _ _ c.loop-done.invariant c.in_ok-done.ensures.part c.in_ok-done.ensures.added c.in_ok-done.ensures.cause.later

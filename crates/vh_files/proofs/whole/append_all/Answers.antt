use Rattle.std.proofs.Common.{◌∙◌}
use Rattle.vh_files.proofs.Loops.{IsGrowing_more}
use Rattle.vh_files.proofs.whole.append_all.Goals as goal

pub loop-done-preserved : goal.loop-done-preserved
loop-done-preserved g c = (
  IsGrowing_more _ _ _ _ _ _ _ _ _ _ _ _ c.loop-done.invariant.2 c.loop-done.invariant.0 c.in_ok-done.ensures.part c.in_ok-done.ensures.added c.in_ok-done.ensures.cause.later c.in_ok-done.ensures.lacking,
  λ other apart. c.in_ok-done.ensures.others other apart ∙ c.loop-done.invariant.1 other apart,
  c.in_ok-done.ensures.complete ∙ c.loop-done.invariant.2,
  c.in_ok-done.ensures.reads ∙ c.loop-done.invariant.3,
)

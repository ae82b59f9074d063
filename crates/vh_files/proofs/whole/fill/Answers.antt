use Rattle.std.proofs.Common.{◌∙◌, arith}
use Rattle.vh_files.proofs.Loops.{IsFilling_more}
use Rattle.vh_files.proofs.whole.fill.Goals as goal

pub loop-done-preserved : goal.loop-done-preserved
loop-done-preserved g c = (
  IsFilling_more _ _ _ _ _ _ _ _ _ _ _ _ _ c.loop-done.invariant.2 c.loop-done.invariant.1 c.loop-done.invariant.0 c.loop-done-test.true (omega arith) c.in_ok-got.ensures.bound c.in_ok-got.ensures.bytes c.in_ok-got.ensures.cause.later c.in_ok-got.ensures.lacking,
  c.in_ok-got.ensures.held ∙ c.loop-done.invariant.1,
  c.in_ok-got.ensures.complete ∙ c.loop-done.invariant.2,
  c.in_ok-got.ensures.writes ∙ c.loop-done.invariant.3,
)

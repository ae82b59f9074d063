use Rattle.std.proofs.Common.{ℕ, ◌≤◌, All, take}
use Rattle.vh_live.proofs.run.longest.Given as goal

abbrev pub invariant-loop-size : goal.invariant-loop-size
invariant-loop-size l = (1 ≤ l.longest) × ((most : ℕ) → 1 ≤ most → All (λ size. size ≤ most) l.sizes → l.longest ≤ most) × All (λ size. size ≤ l.longest) (take l.size-index l.sizes)

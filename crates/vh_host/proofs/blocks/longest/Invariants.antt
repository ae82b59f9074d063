use Rattle.std.proofs.Common.{◌≤◌, All, take}
use Rattle.vh_host.proofs.blocks.longest.Given as goal

abbrev pub invariant-loop-size : goal.invariant-loop-size
invariant-loop-size l = (1 ≤ l.longest) × (l.longest ≤ 8192) × All (λ size. size ≤ l.longest) (take l.size-index l.sizes)

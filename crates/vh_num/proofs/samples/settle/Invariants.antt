use Rattle.std.proofs.Common.{◌≡◌, ℕ, ◌<◌, get_or, pos}
use Rattle.vh_num.specs.Samples.{clamp_of}
use Rattle.vh_num.proofs.samples.settle.Given as goal

abbrev pub invariant-loop-i : goal.invariant-loop-i
invariant-loop-i l = (k : ℕ) → k < l.i → get_or l.out k (pos 0) ≡ clamp_of (get_or l.acc k (pos 0))

use Rattle.std.proofs.Common.{◌≡◌, ◌<◌, ℕ, get_or, pos}
use Rattle.vh_builtin.proofs.delay.silence.Given as goal

abbrev pub invariant-loop-k : goal.invariant-loop-k
invariant-loop-k l = (place : ℕ) → place < l.k → get_or l.ring place (pos 0) ≡ pos 0

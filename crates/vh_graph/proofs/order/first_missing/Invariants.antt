use Rattle.std.proofs.Common.{◌≡◌, ◌<◌, ◌≤◌, ℕ, Bool, true, get_or}
use Rattle.vh_graph.proofs.order.first_missing.Given as goal

abbrev pub invariant-loop-i : goal.invariant-loop-i
invariant-loop-i l = (k d : ℕ) (e : Bool) → l.passed ≤ k → k < l.i → get_or l.stands (get_or l.sources k d) e ≡ true

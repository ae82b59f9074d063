use Rattle.std.proofs.Common.{◌+◌, List, ℤ}
use Rattle.vh_builtin.specs.Rings.{history, IsEcho}
use Rattle.vh_builtin.proofs.delay.run_now.Given as goal

abbrev pub invariant-loop-k : goal.invariant-loop-k
invariant-loop-k l = (us : List ℤ) → IsEcho 0 l.mix l.feedback us l.main l.from (history l.fn.ring l.write) l.fn.out → IsEcho 0 l.mix l.feedback us l.main (l.from + l.k) (history l.ring (l.write + l.k)) l.out

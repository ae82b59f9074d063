use Rattle.std.proofs.Common.{[], ◌∷◌}
use Rattle.vh_builtin.specs.OnePole.{onepole}
use Rattle.vh_builtin.proofs.Ran.{IsMono}
use Rattle.vh_builtin.proofs.onepole.OnePoleKernel.mono.Given as goal

abbrev pub invariant-loop-i : goal.invariant-loop-i
invariant-loop-i l = IsMono onepole (l.fn.self.left ∷ l.fn.self.right ∷ []) l.values l.main l.aux l.i (l.left ∷ l.fn.self.right ∷ []) l.out

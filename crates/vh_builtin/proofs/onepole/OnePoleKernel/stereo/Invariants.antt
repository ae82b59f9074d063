use Rattle.std.proofs.Common.{[], ◌∷◌}
use Rattle.vh_builtin.specs.OnePole.{onepole}
use Rattle.vh_builtin.proofs.Ran.{IsStereo}
use Rattle.vh_builtin.proofs.onepole.OnePoleKernel.stereo.Given as goal

abbrev pub invariant-loop-i : goal.invariant-loop-i
invariant-loop-i l = IsStereo onepole (l.fn.self.left ∷ l.fn.self.right ∷ []) l.values l.left l.right l.aux_left l.aux_right l.i (l.z ∷ l.w ∷ []) l.out_left l.out_right

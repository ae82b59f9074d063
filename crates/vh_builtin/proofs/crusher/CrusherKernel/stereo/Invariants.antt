use Rattle.std.proofs.Common.{[], ◌∷◌, pos}
use Rattle.vh_builtin.specs.Crusher.{crusher}
use Rattle.vh_builtin.proofs.Ran.{IsStereo}
use Rattle.vh_builtin.proofs.crusher.CrusherKernel.stereo.Given as goal

abbrev pub invariant-loop-i : goal.invariant-loop-i
invariant-loop-i l = IsStereo crusher (pos l.fn.self.count ∷ l.fn.self.left ∷ l.fn.self.right ∷ []) l.values l.left l.right l.aux_left l.aux_right l.i (pos l.count ∷ l.held ∷ l.held_right ∷ []) l.out_left l.out_right

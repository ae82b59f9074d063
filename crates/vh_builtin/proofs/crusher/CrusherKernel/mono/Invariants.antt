use Rattle.std.proofs.Common.{[], ◌∷◌, pos}
use Rattle.vh_builtin.specs.Crusher.{crusher}
use Rattle.vh_builtin.proofs.Ran.{IsMono}
use Rattle.vh_builtin.proofs.crusher.CrusherKernel.mono.Given as goal

abbrev pub invariant-loop-i : goal.invariant-loop-i
invariant-loop-i l = IsMono crusher (pos l.fn.self.count ∷ l.fn.self.left ∷ l.fn.self.right ∷ []) l.values l.main l.aux l.i (pos l.count ∷ l.held ∷ l.fn.self.right ∷ []) l.out

use Rattle.std.proofs.Common.{[], ◌∷◌, pos, length}
use Rattle.vh_builtin.specs.Frames.{value}
use Rattle.vh_builtin.specs.Gate.{gate}
use Rattle.vh_builtin.specs.Marks.{AreMarked}
use Rattle.vh_builtin.proofs.Marking.{mono_loud}
use Rattle.vh_builtin.proofs.Ran.{IsMono}
use Rattle.vh_builtin.proofs.gate.GateKernel.mono.Given as goal

abbrev pub invariant-loop-i : goal.invariant-loop-i
invariant-loop-i l = IsMono gate (pos l.fn.self.left ∷ []) l.values l.main l.aux l.i (pos l.left ∷ []) l.out
    × AreMarked (mono_loud (value l.values 0) l.main l.aux) l.i (length l.fn.out) l.out

use Rattle.std.proofs.Common.{[], ◌∷◌, pos, length}
use Rattle.vh_builtin.specs.Frames.{value}
use Rattle.vh_builtin.specs.Gate.{gate}
use Rattle.vh_builtin.specs.Marks.{AreMarked}
use Rattle.vh_builtin.proofs.Marking.{stereo_loud}
use Rattle.vh_builtin.proofs.Ran.{IsStereo}
use Rattle.vh_builtin.proofs.gate.GateKernel.stereo.Given as goal

abbrev pub invariant-loop-i : goal.invariant-loop-i
invariant-loop-i l = IsStereo gate (pos l.fn.self.left ∷ []) l.values l.left l.right l.aux_left l.aux_right l.i (pos l.open ∷ []) l.out_left l.out_right
    × AreMarked (stereo_loud (value l.values 0) l.left l.right l.aux_left l.aux_right) l.i (length l.fn.out_left) l.out_left

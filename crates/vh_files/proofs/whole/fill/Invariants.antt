use Rattle.std.proofs.Common.{◌≡◌, ◌-◌, length}
use Rattle.vh_files.proofs.Loops.{IsFilling}
use Rattle.vh_files.proofs.whole.fill.Given as goal

abbrev pub invariant-loop-done : goal.invariant-loop-done
invariant-loop-done g l =
    IsFilling (g.F.Files.complete l.initial.files) (g.F.Files.held l.initial.files) l.name l.at l.done l.buf (g.F.Files.read_faults l.initial.files) (g.F.Files.read_faults l.files)
    × (g.F.Files.held l.files ≡ g.F.Files.held l.initial.files)
    × (g.F.Files.complete l.files ≡ g.F.Files.complete l.initial.files)
    × (g.F.Files.write_faults l.files ≡ g.F.Files.write_faults l.initial.files)

abbrev pub decreases-loop-done : goal.decreases-loop-done
decreases-loop-done g l = length l.buf - l.done

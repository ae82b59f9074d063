use Rattle.std.proofs.Common.{◌≡◌, ◌-◌, length}
use Rattle.vh_files.specs.Store.{SameElsewhere}
use Rattle.vh_files.proofs.Loops.{IsGrowing}
use Rattle.vh_files.proofs.whole.append_all.Given as goal

abbrev pub invariant-loop-done : goal.invariant-loop-done
invariant-loop-done g l =
    IsGrowing (g.F.Files.complete l.initial.files) (g.F.Files.held l.initial.files) (g.F.Files.held l.files) l.name l.done l.bytes (g.F.Files.write_faults l.initial.files) (g.F.Files.write_faults l.files)
    × SameElsewhere l.name (g.F.Files.held l.initial.files) (g.F.Files.held l.files)
    × (g.F.Files.complete l.files ≡ g.F.Files.complete l.initial.files)
    × (g.F.Files.read_faults l.files ≡ g.F.Files.read_faults l.initial.files)

abbrev pub decreases-loop-done : goal.decreases-loop-done
decreases-loop-done g l = length l.bytes - l.done

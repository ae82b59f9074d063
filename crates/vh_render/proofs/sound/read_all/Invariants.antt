use Rattle.std.proofs.Common.{◌-◌, ◌≡◌, ◌≤◌, ◌<◌, ℕ, List, Some, slice_index_or}
use Rattle.vh_files.specs.Causes.{OnlyRead}
use Rattle.vh_files.specs.Store.{told}
use Rattle.vh_num.specs.Frames.{frame_at}
use Rattle.vh_wav.specs.Frames.{frames_in, silence}
use Rattle.vh_render.proofs.sound.read_all.Given as goal

abbrev pub invariant-loop-done : goal.invariant-loop-done
invariant-loop-done g l =
    (l.done ≤ l.frames)
    × ((bytes : List ℕ) → told (g.F.Files.held l.fn.files) l.name ≡ Some bytes → (place : ℕ) → place < l.done
    → frame_at l.head.channels l.frames l.samples place ≡ slice_index_or (frames_in bytes l.head) place (silence l.head.channels))
    × OnlyRead (g.F.Files.held l.fn.files) (g.F.Files.held l.files) (g.F.Files.complete l.fn.files) (g.F.Files.complete l.files) (g.F.Files.write_faults l.fn.files) (g.F.Files.write_faults l.files) (g.F.Files.read_faults l.fn.files) (g.F.Files.read_faults l.files)

abbrev pub decreases-loop-done : goal.decreases-loop-done
decreases-loop-done g l = l.frames - l.done

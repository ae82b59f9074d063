use Rattle.std.proofs.Common.{◌≡◌, ℕ, ◌-◌, ◌≤◌, List, drop, Some}
use Rattle.std.specs.Option.{IfSome}
use Rattle.vh_files.specs.Causes.{OnlyRead}
use Rattle.vh_files.specs.Store.{told}
use Rattle.vh_wav.specs.Chunks.{chunks_after}
use Rattle.vh_wav.specs.Judged.{wav_head, verdict}
use Rattle.vh_wav.specs.Heads.{IsFormat}
use Rattle.vh_wav.proofs.head.read_head.Given as goal

abbrev pub invariant-walk : goal.invariant-walk
invariant-walk g l =
    (l.at ≤ l.size)
    × IfSome l.format IsFormat
    × ((bytes : List ℕ) → told (g.F.Files.held l.fn.files) l.name ≡ Some bytes → verdict l.format (chunks_after 0 l.at (drop l.at bytes)) ≡ wav_head bytes)
    × OnlyRead (g.F.Files.held l.fn.files) (g.F.Files.held l.files) (g.F.Files.complete l.fn.files) (g.F.Files.complete l.files) (g.F.Files.write_faults l.fn.files) (g.F.Files.write_faults l.files) (g.F.Files.read_faults l.fn.files) (g.F.Files.read_faults l.files)

abbrev pub decreases-walk : goal.decreases-walk
decreases-walk g l = l.size - l.at

use Rattle.std.proofs.Common.{◌≡◌, ℕ, ◌+◌, ◌*◌, ◌<◌, get_or, pos}
use Rattle.vh_files.specs.Fields.{field_at}
use Rattle.vh_wav.specs.Samples.{signed}
use Rattle.vh_wav.proofs.frames.decode24.Given as goal

abbrev pub invariant-loop-i : goal.invariant-loop-i
invariant-loop-i l = (l.at ≡ l.i * l.stride + l.offset) × ((k : ℕ) → k < l.i → get_or l.out k (pos 0) ≡ signed 24 (field_at l.bytes (k * l.stride + l.offset) 3))

use Rattle.std.proofs.Common.{◌≡◌, ◌*◌, take}
use Rattle.std.specs.List.{flat_map}
use Rattle.vh_wav.specs.Text.{sample_bytes}
use Rattle.vh_wav.proofs.text.encode_mono16.Given as goal

abbrev pub invariant-loop-i : goal.invariant-loop-i
invariant-loop-i l = take (2 * l.i) l.out ≡ flat_map (sample_bytes 16) (take l.i l.samples)

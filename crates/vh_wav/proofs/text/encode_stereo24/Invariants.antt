use Rattle.std.proofs.Common.{◌≡◌, ◌*◌, ◌++◌, take}
use Rattle.std.specs.List.{flat_map, zip}
use Rattle.vh_wav.specs.Text.{sample_bytes}
use Rattle.vh_wav.proofs.text.encode_stereo24.Given as goal

abbrev pub invariant-loop-i : goal.invariant-loop-i
invariant-loop-i l = take (6 * l.i) l.out ≡ flat_map (λ p. sample_bytes 24 p.0 ++ sample_bytes 24 p.1) (take l.i (zip l.left l.right))

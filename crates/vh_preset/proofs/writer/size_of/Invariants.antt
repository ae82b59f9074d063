use Rattle.std.proofs.Common.{◌≡◌, take}
use Rattle.vh_preset.specs.Parts.{given_size}
use Rattle.vh_preset.proofs.writer.size_of.Given as goal

abbrev pub invariant-loop-part : goal.invariant-loop-part
invariant-loop-part l = l.size ≡ given_size (take l.part-index l.parts)

use Rattle.std.proofs.Common.{◌≡◌, ◌++◌, take}
use Rattle.vh_preset.specs.Parts.{given_bytes}
use Rattle.vh_preset.proofs.writer.put_chunks.Given as goal

abbrev pub invariant-loop-part : goal.invariant-loop-part
invariant-loop-part l = l.file.items ≡ l.initial.file.items ++ given_bytes (take l.part-index l.parts)

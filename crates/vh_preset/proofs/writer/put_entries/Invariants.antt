use Rattle.std.proofs.Common.{◌≡◌, ◌+◌, ◌++◌, take, map}
use Rattle.vh_preset.specs.Parts.{part_of, given_size}
use Rattle.vh_preset.specs.Text.{entries_text}
use Rattle.vh_preset.proofs.writer.put_entries.Given as goal

abbrev pub invariant-loop-part : goal.invariant-loop-part
invariant-loop-part l = record {
  file : l.file.items ≡ l.initial.file.items ++ entries_text 48 (map part_of (take l.part-index l.parts));
  place : l.at ≡ 48 + given_size (take l.part-index l.parts);
}

use Rattle.std.proofs.Common.{◌≡◌, ◌++◌, map, drop}
use Rattle.std.specs.Fmt.{decimal}
use Rattle.vh_text.specs.Written.{further_text}
use Rattle.vh_text.proofs.writer.Writer.last_numbers.Given as goal

abbrev pub invariant-loop-n : goal.invariant-loop-n
invariant-loop-n l = l.self.bytes.items ++ further_text (map decimal (drop l.n-index l.numbers)) ≡ l.fn.self.bytes.items ++ further_text (map decimal l.numbers)

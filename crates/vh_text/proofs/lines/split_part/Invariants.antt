use Rattle.std.proofs.Common.{◌≡◌, ◌++◌, drop, take}
use Rattle.vh_text.specs.Lines.{first_part, after_part}
use Rattle.vh_text.proofs.lines.split_part.Given as goal

abbrev pub invariant-loop-i : goal.invariant-loop-i
invariant-loop-i l = (take l.i l.text ++ first_part (drop l.i l.text) ≡ first_part l.text) × (after_part (drop l.i l.text) ≡ after_part l.text)

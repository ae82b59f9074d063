-- What callers see of an iterator over lines.
use Rattle.std.specs.Prelude.{List, ℕ}
use Rattle.vh_text.specs.declared.lines.Lines.{Lines}
use Rattle.vh_text.specs.Lines.{lines_of}

-- the lines that are left
abbrev pub left : Lines → List (List ℕ)
left lines = lines_of lines.text.now

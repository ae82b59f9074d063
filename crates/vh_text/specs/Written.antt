-- Texts that are written: lines of words, with single spaces between them.
use Rattle.std.specs.Prelude.{ℕ, List, [], ◌∷◌, ◌++◌}
use Rattle.vh_text.specs.declared.writer.Writer.{Writer}

-- the words behind the first, and the line's end
abbrev pub further_text : List (List ℕ) → List ℕ
further_text [] = 10 ∷ []
further_text (word ∷ words) = 32 ∷ (word ++ further_text words)

-- a line of words
abbrev pub line_text : List (List ℕ) → List ℕ
line_text [] = 10 ∷ []
line_text (word ∷ words) = word ++ further_text words

abbrev pub lines_text : List (List (List ℕ)) → List ℕ
lines_text [] = []
lines_text (line ∷ lines) = line_text line ++ lines_text lines

-- what was written so far
abbrev pub written : Writer → List ℕ
written writer = writer.bytes.items

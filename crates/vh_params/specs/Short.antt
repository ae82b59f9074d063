-- What short texts and messages say.
use Rattle.std.specs.Prelude.{ℕ, List, take}
use Rattle.vh_params.specs.declared.label.Label.{Label}
use Rattle.vh_params.specs.declared.label.Words.{Words}

abbrev pub label_text : Label → List ℕ
label_text label = take label.len label.bytes

abbrev pub words_in : Words → List ℕ
words_in words = take words.len words.list

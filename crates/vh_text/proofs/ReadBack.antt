-- What was written is read.
use Rattle.std.proofs.Common.{◌≡◌, ◌∙◌, ℕ, List, [], ◌∷◌, map, refl, ap, arith}
use Rattle.std.specs.Prelude.{All}
use Rattle.std.proofs.lemmas.List.Elements.{All-tail}
use Rattle.vh_text.specs.Laws.{IsReadBack}
use Rattle.vh_text.specs.Tokens.{words_of, IsWord}
use Rattle.vh_text.proofs.Joined.{joined, words_joined, lines_are}
use Rattle.vh_text.proofs.Numerals.{number_reads, number_word}

words_back : (lines : List (List (List ℕ))) → All (All IsWord) lines → map words_of (map joined lines) ≡ lines
words_back [] all = refl
words_back (line ∷ lines) all = ap (λ words. words ∷ map words_of (map joined lines)) (words_joined line (all 0 line (omega arith))) ∙ ap (λ ls. line ∷ ls) (words_back lines (All-tail (All IsWord) line lines all))

pub law_read_back : IsReadBack
law_read_back = record {
  lines = λ lines all. ap (map words_of) (lines_are lines all) ∙ words_back lines all;
  number = number_reads;
  is_word = number_word;
}

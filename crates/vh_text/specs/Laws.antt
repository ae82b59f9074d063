-- What words, lines and numbers come to, without their definitions.
use Rattle.std.specs.Prelude.{◌≡◌, ◌≢◌, ◌↔◌, ◌<◌, ◌≤◌, ℕ, suc, ◌^◌, List, length, map, slice_index_or, All, Some}
use Rattle.std.specs.Fmt.{decimal}
use Rattle.vh_text.specs.declared.token.Token.{Token}
use Rattle.vh_text.specs.Lines.{lines_of}
use Rattle.vh_text.specs.Numbers.{number_of}
use Rattle.vh_text.specs.Tokens.{tokens_of, words_of, IsWord}
use Rattle.vh_text.specs.Written.{lines_text}

-- a byte of a line belongs to a token
abbrev pub Covers : Token → ℕ → Type 0
Covers token place = (token.from ≤ place) × (place < token.to)

-- a place of a line lies in one of its tokens
abbrev pub IsCovered : List Token → ℕ → Type 0
IsCovered tokens place = (i : ℕ) × (i < length tokens) × ((d : Token) → Covers (slice_index_or tokens i d) place)

-- the tokens of a line are its runs of bytes other than space: each lies within the line and has a byte, a place lies in one
-- exactly where no space stands there, and between two of them there is a place
pub record AreRuns (line : List ℕ) (tokens : List Token) : Type 0 where
  pub filled : All (λ token. (token.from < token.to) × (token.to ≤ length line)) tokens
  pub covers : (place d : ℕ) → place < length line → (slice_index_or line place d ≢ 32) ↔ IsCovered tokens place
  pub apart : (i : ℕ) (d : Token) → suc i < length tokens → (slice_index_or tokens i d).to < (slice_index_or tokens (suc i) d).from

abbrev pub WordsAreRuns : Type 0
WordsAreRuns = (line : List ℕ) → AreRuns line (tokens_of line)

-- lines of words that are written are read as these words, and a number as itself
pub record IsReadBack : Type 0 where
  pub lines : (lines : List (List (List ℕ))) → All (All IsWord) lines → map words_of (lines_of (lines_text lines)) ≡ lines
  pub number : (n : ℕ) → n < 2 ^ 32 → number_of (decimal n) ≡ Some n
  pub is_word : (n : ℕ) → n < 2 ^ 32 → IsWord (decimal n)

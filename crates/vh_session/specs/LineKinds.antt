-- The kinds of lines.
use Rattle.std.specs.Prelude.{ℕ, ◌+◌, List, [], ◌∷◌, Option, codes}
use Rattle.std.specs.List.{find}
use Rattle.std.specs.Str.{bytes_eq}
use Rattle.vh_session.specs.declared.kind.LineKind.{LineKind}
use Rattle.vh_session.specs.declared.kind.LineKind.TheVariants as kind
use Rattle.vh_session.specs.Limits.{most_sizes, most_numbers}

-- a line's first word
abbrev pub first_word_of : LineKind → List ℕ
first_word_of kind.Length = codes "length"
first_word_of kind.Channels = codes "channels"
first_word_of kind.Bits = codes "bits"
first_word_of kind.Pattern = codes "pattern"
first_word_of kind.Node = codes "node"
first_word_of kind.Preset = codes "preset"
first_word_of kind.Param = codes "param"
first_word_of kind.Wire = codes "wire"
first_word_of kind.Lane = codes "lane"
first_word_of kind.Point = codes "point"
first_word_of kind.Editor = codes "editor"
first_word_of kind.Begin = codes "begin"
first_word_of kind.Perform = codes "perform"
first_word_of kind.End = codes "end"
first_word_of kind.Tell = codes "tell"
first_word_of kind.Hold = codes "hold"
first_word_of kind.Drop = codes "drop"
first_word_of kind.Wait = codes "wait"

-- the words behind it, at least and at most

abbrev pub least_words : LineKind → ℕ
least_words kind.Length = 1
least_words kind.Channels = 1
least_words kind.Bits = 1
least_words kind.Pattern = 1
least_words kind.Node = 2
least_words kind.Preset = 2
least_words kind.Param = 3
least_words kind.Wire = 2
least_words kind.Lane = 5
least_words kind.Point = 2
least_words kind.Editor = 1
least_words kind.Begin = 2
least_words kind.Perform = 3
least_words kind.End = 2
least_words kind.Tell = 1
least_words kind.Hold = 1
least_words kind.Drop = 1
least_words kind.Wait = 1

abbrev pub most_words : LineKind → ℕ
most_words kind.Length = 1
most_words kind.Channels = 1
most_words kind.Bits = 1
most_words kind.Pattern = most_sizes
most_words kind.Node = 2
most_words kind.Preset = 2
most_words kind.Param = 3
most_words kind.Wire = 3
most_words kind.Lane = 5
most_words kind.Point = 2
most_words kind.Editor = 1
most_words kind.Begin = 2
most_words kind.Perform = 3
most_words kind.End = 2
most_words kind.Tell = 1 + most_numbers
most_words kind.Hold = 1
most_words kind.Drop = 1
most_words kind.Wait = 1

abbrev pub kinds : List LineKind
kinds = kind.Length ∷ kind.Channels ∷ kind.Bits ∷ kind.Pattern ∷ kind.Node ∷ kind.Preset ∷ kind.Param ∷ kind.Wire ∷ kind.Lane ∷ kind.Point ∷ kind.Editor ∷ kind.Begin ∷ kind.Perform ∷ kind.End ∷ kind.Tell ∷ kind.Hold ∷ kind.Drop ∷ kind.Wait ∷ []

-- the kind of a line that begins with this word
abbrev pub kind_named : List ℕ → Option LineKind
kind_named first = find (λ k. bytes_eq first (first_word_of k)) kinds

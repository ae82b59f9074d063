-- What a journal's text says, or its first fault.
use Rattle.std.specs.Prelude.{ℕ, ◌+◌, Bool, not, ◌&&◌, nat_lt, List, [], ◌∷◌, ◌++◌, length, Result, Ok, Err, codes}
use Rattle.std.specs.Option.{is_some}
use Rattle.std.specs.Str.{bytes_eq}
use Rattle.vh_params.specs.Nodes.{Node}
use Rattle.vh_text.specs.Chains.{given, fault_if}
use Rattle.vh_text.specs.Lines.{lines_of}
use Rattle.vh_text.specs.Tokens.{bad_byte, words_of}
use Rattle.vh_journal_text.specs.declared.fault.JournalKind.{JournalKind}
use Rattle.vh_journal_text.specs.declared.fault.JournalKind.TheVariants.{BadHeader, BadLine, NoClose, TooLong}
use Rattle.vh_journal_text.specs.declared.fault.JournalFault.{JournalFault}
use Rattle.vh_journal_text.specs.Items.{Item, Said, Close, Entered}
use Rattle.vh_journal_text.specs.Lines.{Checked, word, has_count, said_in}
use Rattle.vh_journal_text.specs.Rules.{item_after}

abbrev pub fault : ℕ → JournalKind → JournalFault
fault line kind = record { line = line; kind = kind }

-- what a line comes to behind entries: no further entry, or one
pub data Step : Type 0 where
  Closes : Step
  Adds : Item → Step

abbrev pub step_of : List Node → ℕ → List Item → Said → Checked Step
step_of nodes most before Close = Ok Closes
step_of nodes most before (Entered line) = given (item_after nodes most before line) (λ item. Ok (Adds item))

abbrev pub step_after : List Node → ℕ → List Item → List ℕ → Checked Step
step_after nodes most before text = given (said_in text) (step_of nodes most before)

-- behind `close` there is no line, not even an empty one
abbrev pub closed_by : ℕ → List Item → List (List ℕ) → Result (List Item) JournalFault
closed_by line items [] = Ok items
closed_by line items (text ∷ texts) = Err (fault line BadLine)

-- how it goes on behind a line
abbrev pub behind : Checked Step → ℕ → List Item → List (List ℕ) → (List Item → Result (List Item) JournalFault) → Result (List Item) JournalFault
behind (Err kind) line before texts further = Err (fault line kind)
behind (Ok Closes) line before texts further = closed_by (line + 1) before texts
behind (Ok (Adds item)) line before texts further = further (before ++ item ∷ [])

-- the entries of the lines up to `close`, which is the last, where the first of them has this number and these entries
-- stand before; or the first fault
abbrev pub items_from : List Node → ℕ → ℕ → List Item → List (List ℕ) → Result (List Item) JournalFault
items_from nodes most line before [] = Err (fault line NoClose)
items_from nodes most line before (text ∷ texts) = behind (step_after nodes most before text) line before texts (λ items. items_from nodes most (line + 1) items texts)

-- `vsthost journal 1`
abbrev pub are_header : List (List ℕ) → Bool
are_header words = has_count 3 words && (bytes_eq (word words 0) (codes "vsthost") && (bytes_eq (word words 1) (codes "journal") && bytes_eq (word words 2) (codes "1")))

-- the first line, which has no byte but printable ones
abbrev pub is_header : List ℕ → Bool
is_header text = not (is_some (bad_byte text)) && are_header (words_of text)

abbrev pub lines_say : List Node → ℕ → List (List ℕ) → Result (List Item) JournalFault
lines_say nodes most [] = Err (fault 1 BadHeader)
lines_say nodes most (text ∷ texts) = fault_if (not (is_header text)) (fault 1 BadHeader) (items_from nodes most 2 [] texts)

abbrev pub journal_limit : ℕ
journal_limit = 1048576

-- the entries that a text says, for a session of these nodes and this length; or its first fault
abbrev pub journal_of : List Node → ℕ → List ℕ → Result (List Item) JournalFault
journal_of nodes most bytes = fault_if (nat_lt journal_limit (length bytes)) (fault 0 TooLong) (lines_say nodes most (lines_of bytes))

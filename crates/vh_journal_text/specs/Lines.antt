-- What the words of a line say. Words that fit no form, and each number that is none or out of range, are BadLine.
use Rattle.std.specs.Prelude.{ℕ, Bool, not, ◌&&◌, ◌==◌, nat_le, nat_lt, List, [], ◌∷◌, length, drop, slice_index_or, Result, Ok, Err, if◌then◌else◌, codes}
use Rattle.std.specs.Option.{is_some}
use Rattle.std.specs.Str.{bytes_eq}
use Rattle.vh_text.specs.Chains.{given, fault_if}
use Rattle.vh_text.specs.Numbers.{number_or, passing_number}
use Rattle.vh_text.specs.Tokens.{bad_byte, words_of}
use Rattle.vh_journal_text.specs.declared.fault.JournalKind.{JournalKind}
use Rattle.vh_journal_text.specs.declared.fault.JournalKind.TheVariants.{BadLine}
use Rattle.vh_journal_text.specs.Items.{Act, Begins, Performs, Ends, Tells, Line, Said, Close, Entered}

-- what a rule makes of a line, or the first kind of fault
abbrev pub Checked : Type 0 → Type 0
Checked A = Result A JournalKind

abbrev pub word : List (List ℕ) → ℕ → List ℕ
word words i = slice_index_or words i []

-- any number below 2^32
abbrev pub any_number : List ℕ → Checked ℕ
any_number text = number_or BadLine text

-- one of the 8 editors
abbrev pub editor_number : List ℕ → Checked ℕ
editor_number text = passing_number BadLine (λ n. nat_le n 7) text

-- a normalised value
abbrev pub value_number : List ℕ → Checked ℕ
value_number text = passing_number BadLine (λ n. nat_le n 16777216) text

-- numbers in a row
abbrev pub any_numbers : List (List ℕ) → Checked (List ℕ)
any_numbers [] = Ok []
any_numbers (text ∷ texts) = given (any_number text) (λ n. given (any_numbers texts) (λ ns. Ok (n ∷ ns)))

-- exactly so many words
abbrev pub has_count : ℕ → List (List ℕ) → Bool
has_count count words = length words == count

-- what a verb does with the words behind the node: `begin NODE ID`, `perform NODE ID VALUE`, `end NODE ID`,
-- `tell NODE W ..` with at most 4 numbers
abbrev pub act_in : List ℕ → List (List ℕ) → Checked Act
act_in verb words =
    if bytes_eq verb (codes "begin") then fault_if (not (has_count 1 words)) BadLine (given (any_number (word words 0)) (λ id. Ok (Begins id)))
    else if bytes_eq verb (codes "perform") then fault_if (not (has_count 2 words)) BadLine (given (any_number (word words 0)) (λ id. given (value_number (word words 1)) (λ value. Ok (Performs id value))))
    else if bytes_eq verb (codes "end") then fault_if (not (has_count 1 words)) BadLine (given (any_number (word words 0)) (λ id. Ok (Ends id)))
    else if bytes_eq verb (codes "tell") then fault_if (nat_lt 4 (length words)) BadLine (given (any_numbers words) (λ numbers. Ok (Tells numbers)))
    else Err BadLine

-- `SAMPLE EDITOR SEQ VERB NODE ..`
abbrev pub entry_line : List (List ℕ) → Checked Line
entry_line words =
    fault_if (nat_lt (length words) 5) BadLine
    (given (any_number (word words 0)) (λ sample.
    given (editor_number (word words 1)) (λ editor.
    given (any_number (word words 2)) (λ seq.
    given (act_in (word words 3) (drop 5 words)) (λ act.
    Ok (record { sample = sample; editor = editor; seq = seq; name = word words 4; act = act }))))))

-- `close` alone
abbrev pub are_close : List (List ℕ) → Bool
are_close words = has_count 1 words && bytes_eq (word words 0) (codes "close")

abbrev pub said_by : List (List ℕ) → Checked Said
said_by words = if are_close words then Ok Close else given (entry_line words) (λ line. Ok (Entered line))

-- what a line says, which has no byte but printable ones
abbrev pub said_in : List ℕ → Checked Said
said_in text = fault_if (is_some (bad_byte text)) BadLine (said_by (words_of text))

-- What a session's text says, line by line, and what it comes to.
use Rattle.std.specs.Prelude.{ℕ, ◌+◌, Bool, true, not, ◌&&◌, ◌==◌, nat_lt, List, [], ◌∷◌, length, Result, Ok, Err, if◌then◌else◌, codes}
use Rattle.std.specs.Option.{is_some}
use Rattle.std.specs.Str.{bytes_eq}
use Rattle.vh_text.specs.Lines.{lines_of}
use Rattle.vh_text.specs.Tokens.{bad_byte, words_of}
use Rattle.vh_params.specs.declared.class.ClassInfo.{ClassInfo}
use Rattle.vh_session.specs.declared.fault.SessionKind.{SessionKind}
use Rattle.vh_session.specs.declared.fault.SessionKind.TheVariants.{BadHeader, NoLine, TooLong}
use Rattle.vh_session.specs.declared.fault.SessionFault.{SessionFault}
use Rattle.vh_session.specs.Entry.{Entry, Draft, no_draft, with_entry}
use Rattle.vh_session.specs.Lines.{line_of}
use Rattle.vh_session.specs.Rules.{word}
use Rattle.vh_text.specs.Chains.{given, fault_if}
use Rattle.vh_session.specs.Limits.{session_limit}

abbrev pub fault : ℕ → SessionKind → SessionFault
fault line kind = record { line = line; kind = kind }

-- a line of spaces or nothing, or one whose first byte other than space is `#`
abbrev pub is_skipped : List ℕ → Bool
is_skipped [] = true
is_skipped (b ∷ bs) = if b == 32 then is_skipped bs else b == 35

-- what the lines come to with a further one, or its fault
abbrev pub with_line : ℕ → Draft → Result Entry SessionKind → Result Draft SessionFault
with_line line draft (Ok entry) = Ok (with_entry line entry draft)
with_line line draft (Err kind) = Err (fault line kind)

abbrev pub after_line : List ClassInfo → ℕ → Draft → List ℕ → Result Draft SessionFault
after_line classes line draft text = if is_skipped text then Ok draft else with_line line draft (line_of classes draft text)

-- what lines come to, where the first of them has this number and these lines stand before it; or the first fault
abbrev pub lines_from : List ClassInfo → ℕ → Draft → List (List ℕ) → Result Draft SessionFault
lines_from classes line draft [] = Ok draft
lines_from classes line draft (text ∷ texts) = given (after_line classes line draft text) (λ more. lines_from classes (line + 1) more texts)

-- `vsthost session 1`
abbrev pub are_header : List (List ℕ) → Bool
are_header words = (length words == 3) && (bytes_eq (word words 0) (codes "vsthost") && (bytes_eq (word words 1) (codes "session") && bytes_eq (word words 2) (codes "1")))

-- the first line, which has no byte but printable ones
abbrev pub is_header : List ℕ → Bool
is_header text = not (is_some (bad_byte text)) && are_header (words_of text)

-- the first line, and then what the others come to
abbrev pub text_from : List ClassInfo → List (List ℕ) → Result Draft SessionFault
text_from classes [] = Err (fault 1 BadHeader)
text_from classes (text ∷ texts) = fault_if (not (is_header text)) (fault 1 BadHeader) (lines_from classes 2 no_draft texts)

-- whether the lines stand that each session has
abbrev pub is_complete : Draft → Bool
is_complete draft = (is_some draft.length && is_some draft.channels) && (is_some draft.bits && nat_lt 0 (length draft.pattern))

-- what a text comes to, or its first fault but for a cycle
abbrev pub draft_of : List ClassInfo → List ℕ → Result Draft SessionFault
draft_of classes bytes =
    fault_if (nat_lt session_limit (length bytes)) (fault 0 TooLong)
    (given (text_from classes (lines_of bytes)) (λ draft.
    fault_if (not (is_complete draft)) (fault (length (lines_of bytes) + 1) NoLine)
    (Ok draft)))

-- A line that is written says what its words do.
use Rattle.std.proofs.Common.{◌≡◌, ◌∙◌, ℕ, false, cond, List, ap, Ok}
use Rattle.std.specs.Prelude.{All}
use Rattle.vh_text.specs.Tokens.{words_of, IsWord}
use Rattle.vh_text.specs.Chains.{fault_if}
use Rattle.vh_text.proofs.Joined.{joined, joined_printable, none_bad, words_joined}
use Rattle.vh_params.specs.declared.class.ClassInfo.{ClassInfo}
use Rattle.vh_session.specs.declared.fault.SessionKind.TheVariants.{BadByte}
use Rattle.vh_session.specs.Entry.{Draft}
use Rattle.vh_session.specs.Lines.{line_of, line_of_words}
use Rattle.vh_session.specs.Reading.{is_skipped, after_line, with_line}

pub line_says : (known : List ClassInfo) (number : ℕ) (draft : Draft) (words : List (List ℕ)) → All IsWord words → is_skipped (joined words) ≡ false → after_line known number draft (joined words) ≡ with_line number draft (line_of_words known draft words)
line_says known number draft words all goes =
    let none = none_bad 0 (joined words) (joined_printable words all) in
    ap (λ t. cond t (Ok draft) (with_line number draft (line_of known draft (joined words)))) goes
    ∙ ap (λ t. with_line number draft (fault_if t BadByte (line_of_words known draft (words_of (joined words))))) none
    ∙ ap (λ ws. with_line number draft (line_of_words known draft ws)) (words_joined words all)

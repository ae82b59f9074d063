use Rattle.std.proofs.Common.{rules, ◌≡◌, ◌∙◌, ◌<◌, [], length, get_or, sym, subst, ap, Ok, Err, arith}
use Rattle.std.proofs.lemmas.List.{length-set}
use Rattle.vh_text.specs.Tokens.{texts}
use Rattle.vh_journal_text.specs.Lines.{any_number, any_numbers}
use Rattle.vh_journal_text.specs.Steps.{IsMessage}
use Rattle.vh_journal_text.proofs.Several.{one_more, first_fault, text_at, texts_long}
use Rattle.vh_journal_text.proofs.line.message.Goals as goal

pub loop-i-preserved : goal.loop-i-preserved
loop-i-preserved c =
    let words = c.args.words.now in
    let i = c.loop-i.i in
    let long = texts_long words in
    let lt : i < length words = search rules in
    let within : i < length (texts words) = omega (arith, lt, long) in
    let asked = c.requires in
    let same = c.loop-i.invariant.0 in
    let room : i < length c.loop-i.numbers = omega (arith, lt, asked, same) in
    let now : any_number (get_or (texts words) i []) ≡ Ok c.in_ok-numbers.field-0 = ap (λ t. any_number t) (text_at words i) ∙ sym c.any_number.ensures ∙ c.in_ok-numbers.was in
    (length-set c.loop-i.numbers i c.in_ok-numbers.field-0 ∙ same, one_more (texts words) i c.in_ok-numbers.field-0 c.loop-i.numbers [] within room c.loop-i.invariant.1 now)

pub returns-in_err-numbers : goal.returns-in_err-numbers
returns-in_err-numbers c =
    let words = c.args.words.now in
    let i = c.loop-i.i in
    let long = texts_long words in
    let lt : i < length words = search rules in
    let within : i < length (texts words) = omega (arith, lt, long) in
    let kind = c.in_err-numbers.field-0.0 in
    let now : any_number (get_or (texts words) i []) ≡ Err kind = ap (λ t. any_number t) (text_at words i) ∙ sym c.any_number.ensures ∙ c.in_err-numbers.was in
    let fault = first_fault (texts words) i c.loop-i.numbers [] kind within c.loop-i.invariant.1 now in
    let is : c.from_residual.result ≡ Err kind = search rules in
    subst (λ r. IsMessage (any_numbers (texts words)) r) (sym is) fault

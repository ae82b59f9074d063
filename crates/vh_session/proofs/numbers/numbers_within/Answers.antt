use Rattle.std.proofs.Common.{rules, ◌≡◌, ◌∙◌, ◌<◌, [], take, length, get_or, sym, subst, ap, Ok, Err, arith}
use Rattle.std.specs.Result.{MatchResult}
use Rattle.std.proofs.lemmas.List.{length-set}
use Rattle.vh_session.specs.Rules.{numbers_that, number_that}
use Rattle.vh_text.specs.Numbers.{is_within}
use Rattle.vh_text.specs.Tokens.{texts}
use Rattle.vh_session.proofs.Several.{one_more, first_fault, text_at, texts_long}
use Rattle.vh_session.proofs.numbers.numbers_within.Goals as goal

pub loop-i-preserved : goal.loop-i-preserved
loop-i-preserved c =
    let passes = is_within c.args.least c.args.most in
    let words = c.args.words.now in
    let i = c.loop-i.i in
    let long = texts_long words in
    let lt : i < length words = search rules in
    let within : i < length (texts words) = omega (arith, lt, long) in
    let asked = c.requires in
    let same = c.loop-i.invariant.0 in
    let room : i < length c.loop-i.numbers = omega (arith, lt, asked, same) in
    let now : number_that passes (get_or (texts words) i []) ≡ Ok c.in_ok-numbers.field-0 = ap (λ t. number_that passes t) (text_at words i) ∙ sym c.number_within.ensures.value ∙ c.in_ok-numbers.was in
    (length-set c.loop-i.numbers i c.in_ok-numbers.field-0 ∙ same, one_more passes (texts words) i c.in_ok-numbers.field-0 c.loop-i.numbers [] within room c.loop-i.invariant.1 now)

pub returns-in_err-numbers-clause-numbers : goal.returns-in_err-numbers-clause-numbers
returns-in_err-numbers-clause-numbers c =
    let passes = is_within c.args.least c.args.most in
    let words = c.args.words.now in
    let i = c.loop-i.i in
    let long = texts_long words in
    let lt : i < length words = search rules in
    let within : i < length (texts words) = omega (arith, lt, long) in
    let kind = c.in_err-numbers.field-0.0 in
    let now : number_that passes (get_or (texts words) i []) ≡ Err kind = ap (λ t. number_that passes t) (text_at words i) ∙ sym c.number_within.ensures.value ∙ c.in_err-numbers.was in
    let fault = first_fault passes (texts words) i c.loop-i.numbers [] kind within c.loop-i.invariant.1 now in
    let is : c.from_residual.result ≡ Err kind = search rules in
    subst (λ r. MatchResult r (λ _. numbers_that passes (texts words) ≡ Ok (take (length words) c.loop-i.numbers)) (λ k. numbers_that passes (texts words) ≡ Err k)) (sym is) fault

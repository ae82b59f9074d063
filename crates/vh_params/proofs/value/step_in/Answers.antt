use Rattle.std.proofs.Common.{List, ℕ, ap, sym, subst, ◌∙◌, arith}
use Rattle.std.specs.Str.{IsAscii}
use Rattle.std.specs.Result.{result_ok}
use Rattle.std.proofs.lemmas.Fmt.{IsAscii-decimal, parse-decimal}
use Rattle.std.proofs.lemmas.Str.{IsUtf8-from_ascii}
use Rattle.vh_params.proofs.value.step_in.Goals as goal

pub returns-in_default : goal.returns-in_default
returns-in_default c = λ step lt e.
    let P : List ℕ → Type 0 = λ bytes. IsAscii bytes in
    let ascii : IsAscii c.args.text.now = subst P e (IsAscii-decimal step (omega arith)) in
    absurd (c.in_default.ensures.cases.0 (IsUtf8-from_ascii c.args.text.now ascii))

pub returns : goal.returns
returns c = λ step lt e.
    let number = parse-decimal 32 step c.in-Ok.text.now c.parse.result (omega arith) (omega arith) (c.in-Ok.ensures.cases.0 ∙ sym e) c.parse.ensures.value.0 in
    c.ok.ensures.value ∙ ap result_ok number

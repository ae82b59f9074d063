use Rattle.std.proofs.Common.{◌≡◌, ◌∙◌, ◌∷◌, [], ◌++◌, ap}
use Rattle.std.specs.Prelude.{codes}
use Rattle.std.specs.Fmt.{decimal}
use Rattle.vh_text.specs.Written.{line_text}
use Rattle.vh_answers.specs.Told.{written_in}
use Rattle.vh_answers.specs.Refusals.{wav_number}
use Rattle.vh_answers.proofs.Told.{told_as}
use Rattle.vh_answers.proofs.refusal.say_wav.Goals as goal

pub returns : goal.returns
returns g c =
    let line : written_in c.number.new.self ++ 10 ∷ [] ≡ line_text (codes "refused" ∷ codes "wav" ∷ decimal (wav_number c.args.fault) ∷ []) =
    ap (λ t. t ++ 10 ∷ []) (c.number.ensures.text ∙ ap (λ t. t ++ 32 ∷ decimal c.wav_number.result) c.begin.ensures.text ∙ ap (λ n. codes "refused wav" ++ 32 ∷ decimal n) c.wav_number.ensures) in
    told_as _ _ _ _ c.say.result line c.say.ensures

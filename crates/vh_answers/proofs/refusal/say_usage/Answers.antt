use Rattle.std.proofs.Common.{◌≡◌, ◌∷◌, [], ◌++◌, ap}
use Rattle.std.specs.Prelude.{codes}
use Rattle.vh_text.specs.Written.{line_text}
use Rattle.vh_answers.specs.Told.{written_in}
use Rattle.vh_answers.proofs.Told.{told_as}
use Rattle.vh_answers.proofs.refusal.say_usage.Goals as goal

pub returns : goal.returns
returns g c =
    let line : written_in c.begin.new.self ++ 10 ∷ [] ≡ line_text (codes "refused" ∷ codes "usage" ∷ []) = ap (λ t. t ++ 10 ∷ []) c.begin.ensures.text in
    told_as _ _ _ _ c.say.result line c.say.ensures

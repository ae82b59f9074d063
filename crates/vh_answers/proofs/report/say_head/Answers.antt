use Rattle.std.proofs.Common.{rules, ◌≡◌, ◌++◌, ◌∷◌, [], refl, ap}
use Rattle.std.specs.Prelude.{codes}
use Rattle.vh_text.specs.Written.{line_text}
use Rattle.vh_answers.specs.Told.{written_in}
use Rattle.vh_answers.specs.Report.{setting_words}
use Rattle.vh_answers.proofs.Told.{not_begun, goes_on, breaks_off, ends_with, told_as}
use Rattle.vh_answers.proofs.report.say_head.Goals as goal

pub returns-in_err-say : goal.returns-in_err-say
returns-in_err-say g c =
    let line : written_in c.begin.new.self ++ 10 ∷ [] ≡ line_text (codes "vsthost" ∷ codes "report" ∷ codes "1" ∷ []) = ap (λ t. t ++ 10 ∷ []) c.begin.ensures.text in
    breaks_off _ _ _ _ _ _ _ c.from_residual.result c.say.result _ (search rules) c.in_err-say.was (not_begun _ _ _ refl) refl (told_as _ _ _ _ c.say.result line c.say.ensures)

pub returns-in_err-say_setting : goal.returns-in_err-say_setting
returns-in_err-say_setting g c =
    let line : written_in c.begin.new.self ++ 10 ∷ [] ≡ line_text (codes "vsthost" ∷ codes "report" ∷ codes "1" ∷ []) = ap (λ t. t ++ 10 ∷ []) c.begin.ensures.text in
    let frames = line_text (setting_words (codes "frames") c.args.frames) in
    let pieces = line_text (setting_words (codes "pieces") c.args.pieces) in
    let way = goes_on _ _ _ (line_text (codes "vsthost" ∷ codes "report" ∷ codes "1" ∷ []) ++ (frames ++ pieces)) _ _ (frames ++ pieces) c.say.result _ c.in_ok-say.was (not_begun _ _ _ refl) refl (told_as _ _ _ _ c.say.result line c.say.ensures) in
    breaks_off _ _ _ _ _ frames pieces c.from_residual-in_err-say_setting.result c.say_setting.result _ (search rules) c.in_err-say_setting.was way refl c.say_setting.ensures

pub returns : goal.returns
returns g c =
    let line : written_in c.begin.new.self ++ 10 ∷ [] ≡ line_text (codes "vsthost" ∷ codes "report" ∷ codes "1" ∷ []) = ap (λ t. t ++ 10 ∷ []) c.begin.ensures.text in
    let frames = line_text (setting_words (codes "frames") c.args.frames) in
    let pieces = line_text (setting_words (codes "pieces") c.args.pieces) in
    let way = goes_on _ _ _ (line_text (codes "vsthost" ∷ codes "report" ∷ codes "1" ∷ []) ++ (frames ++ pieces)) _ _ (frames ++ pieces) c.say.result _ c.in_ok-say.was (not_begun _ _ _ refl) refl (told_as _ _ _ _ c.say.result line c.say.ensures) in
    let behind = goes_on _ _ _ _ _ frames pieces c.say_setting.result _ c.in_ok-say_setting.was way refl c.say_setting.ensures in
    ends_with _ _ _ _ pieces c.say_setting-2.result behind c.say_setting-2.ensures

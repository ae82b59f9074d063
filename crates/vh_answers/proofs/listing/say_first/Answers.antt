use Rattle.std.proofs.Common.{rules, ◌≡◌, ◌++◌, ◌∷◌, [], refl, ap}
use Rattle.std.specs.Prelude.{codes}
use Rattle.vh_preset.specs.Seen.{contents_of}
use Rattle.vh_text.specs.Written.{line_text}
use Rattle.vh_answers.specs.Told.{written_in}
use Rattle.vh_answers.specs.Listing.{class_words, version_words, first_lines}
use Rattle.vh_answers.proofs.Told.{not_begun, goes_on, breaks_off, ends_with, told_as}
use Rattle.vh_answers.proofs.listing.say_first.Goals as goal

pub returns-in_err-say : goal.returns-in_err-say
returns-in_err-say g c =
    let line : written_in c.begin.new.self ++ 10 ∷ [] ≡ line_text (codes "vsthost" ∷ codes "preset" ∷ codes "1" ∷ []) = ap (λ t. t ++ 10 ∷ []) c.begin.ensures.text in
    breaks_off _ _ _ _ _ _ _ c.from_residual.result c.say.result _ (search rules) c.in_err-say.was (not_begun _ _ _ refl) refl (told_as _ _ _ _ c.say.result line c.say.ensures)

pub returns-in_err-say_class : goal.returns-in_err-say_class
returns-in_err-say_class g c =
    let preset = contents_of c.args.preset.now in
    let line : written_in c.begin.new.self ++ 10 ∷ [] ≡ line_text (codes "vsthost" ∷ codes "preset" ∷ codes "1" ∷ []) = ap (λ t. t ++ 10 ∷ []) c.begin.ensures.text in
    let class = line_text (class_words preset) in
    let version = line_text (version_words preset) in
    let way = goes_on _ _ _ (first_lines preset) _ _ (class ++ version) c.say.result _ c.in_ok-say.was (not_begun _ _ _ refl) refl (told_as _ _ _ _ c.say.result line c.say.ensures) in
    breaks_off _ _ _ _ _ class version c.from_residual-in_err-say_class.result c.say_class.result _ (search rules) c.in_err-say_class.was way refl c.say_class.ensures

pub returns : goal.returns
returns g c =
    let preset = contents_of c.args.preset.now in
    let line : written_in c.begin.new.self ++ 10 ∷ [] ≡ line_text (codes "vsthost" ∷ codes "preset" ∷ codes "1" ∷ []) = ap (λ t. t ++ 10 ∷ []) c.begin.ensures.text in
    let class = line_text (class_words preset) in
    let version = line_text (version_words preset) in
    let way = goes_on _ _ _ (first_lines preset) _ _ (class ++ version) c.say.result _ c.in_ok-say.was (not_begun _ _ _ refl) refl (told_as _ _ _ _ c.say.result line c.say.ensures) in
    let behind = goes_on _ _ _ _ _ class version c.say_class.result _ c.in_ok-say_class.was way refl c.say_class.ensures in
    ends_with _ _ _ _ version c.say_version.result behind c.say_version.ensures

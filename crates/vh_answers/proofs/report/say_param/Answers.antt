use Rattle.std.proofs.Common.{◌≡◌, ◌∙◌, ℕ, zero, suc, ◌<◌, ◌≤◌, List, [], ◌∷◌, ◌++◌, refl, ap, sym, subst, arith}
use Rattle.std.specs.Prelude.{codes, IfSome}
use Rattle.std.specs.Fmt.{decimal}
use Rattle.std.proofs.lemmas.List.{append_assoc}
use Rattle.vh_params.specs.declared.param.ParamInfo.{ParamInfo}
use Rattle.vh_params.specs.Short.{label_text}
use Rattle.vh_params.specs.ValueText.{value_text}
use Rattle.vh_text.specs.Written.{line_text}
use Rattle.vh_answers.specs.Told.{written_in}
use Rattle.vh_answers.specs.Report.{shown_words}
use Rattle.vh_answers.proofs.Told.{told_as}
use Rattle.vh_answers.proofs.report.say_param.Goals as goal

-- a line of these words
without_text : (name id value line : List ℕ) → line ≡ ((codes "param" ++ 32 ∷ name) ++ 32 ∷ id) ++ 32 ∷ value → line ++ 10 ∷ [] ≡ line_text (codes "param" ∷ name ∷ id ∷ value ∷ [])
without_text name id value line is = ap (λ t. t ++ 10 ∷ []) is ∙ simp append_assoc

with_text : (name id value text line : List ℕ) → line ≡ (((codes "param" ++ 32 ∷ name) ++ 32 ∷ id) ++ 32 ∷ value) ++ 32 ∷ text → line ++ 10 ∷ [] ≡ line_text (codes "param" ∷ name ∷ id ∷ value ∷ text ∷ [])
with_text name id value text line is = ap (λ t. t ++ 10 ∷ []) is ∙ simp append_assoc

other_mode : (param : ParamInfo) (value mode : ℕ) → 0 < mode → shown_words param value mode ≡ []
other_mode param value zero lt = absurd (omega (arith, lt))
other_mode param value (suc mode) lt = refl

first_mode : (param : ParamInfo) (value mode : ℕ) → mode ≤ 0 → shown_words param value mode ≡ value_text param.steps (label_text param.units) value ∷ []
first_mode param value zero le = refl
first_mode param value (suc mode) le = absurd (omega (arith, le))

pub returns-then-mode-gt0 : goal.returns-then-mode-gt0
returns-then-mode-gt0 g c =
    let param = c.args.param.now in
    let name = c.args.name.now in
    let line : written_in c.number-2.new.self ≡ ((codes "param" ++ 32 ∷ name) ++ 32 ∷ decimal param.id) ++ 32 ∷ decimal c.args.value = cc in
    told_as _ _ _ _ c.say.result
    (without_text name (decimal param.id) (decimal c.args.value) (written_in c.number-2.new.self) line
    ∙ ap (λ words. line_text (codes "param" ∷ name ∷ decimal param.id ∷ decimal c.args.value ∷ words)) (sym (other_mode param c.args.value c.args.mode c.if-mode-gt0.true)))
    c.say.ensures

pub returns : goal.returns
returns g c =
    let param = c.args.param.now in
    let name = c.args.name.now in
    let text = value_text param.steps (label_text param.units) c.args.value in
    let said : written_in c.value.new.self ≡ written_in c.number-2.new.self ++ 32 ∷ text = subst (λ found. IfSome found (λ (p : ParamInfo). written_in c.value.new.self ≡ written_in c.number-2.new.self ++ 32 ∷ value_text p.steps (label_text p.units) c.args.value)) c.requires.there c.value.ensures.text in
    let line : written_in c.value.new.self ≡ (((codes "param" ++ 32 ∷ name) ++ 32 ∷ decimal param.id) ++ 32 ∷ decimal c.args.value) ++ 32 ∷ text = cc in
    told_as _ _ _ _ c.say-2.result
    (with_text name (decimal param.id) (decimal c.args.value) text (written_in c.value.new.self) line
    ∙ ap (λ words. line_text (codes "param" ∷ name ∷ decimal param.id ∷ decimal c.args.value ∷ words)) (sym (first_mode param c.args.value c.args.mode c.if-mode-gt0.false)))
    c.say-2.ensures

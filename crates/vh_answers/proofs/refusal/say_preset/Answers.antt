use Rattle.std.proofs.Common.{◌≡◌, ◌∙◌, ℕ, List, ◌∷◌, [], ◌++◌, ap}
use Rattle.std.proofs.lemmas.List.{append_assoc}
use Rattle.std.specs.Prelude.{codes}
use Rattle.std.specs.Fmt.{decimal}
use Rattle.vh_preset.specs.Numbers.{refusal_number}
use Rattle.vh_text.specs.Written.{line_text}
use Rattle.vh_answers.specs.Told.{written_in}
use Rattle.vh_answers.specs.Refusals.{node_word}
use Rattle.vh_answers.proofs.Told.{told_as}
use Rattle.vh_answers.proofs.refusal.say_preset.Goals as goal

pub returns : goal.returns
returns g c =
    let node : List ℕ = node_word c.args.node in
    let begun : List ℕ = codes "refused preset" in
    let kind : List ℕ = decimal (refusal_number c.args.kind) in
    let words = codes "refused" ∷ codes "preset" ∷ node ∷ kind ∷ [] in
    let written : written_in c.number-2.new.self ≡ (begun ++ 32 ∷ node) ++ 32 ∷ kind =
    c.number-2.ensures.text ∙ ap (λ (t : List ℕ). t ++ 32 ∷ decimal c.from.result) (c.put_node.ensures.text ∙ ap (λ (t : List ℕ). t ++ 32 ∷ node) c.begin.ensures.text)
    ∙ ap (λ (n : ℕ). (begun ++ 32 ∷ node) ++ 32 ∷ decimal n) (c.from.ensures ∙ c.number.ensures) in
    let line : written_in c.number-2.new.self ++ 10 ∷ [] ≡ line_text words =
    ap (λ (t : List ℕ). t ++ 10 ∷ []) written ∙ append_assoc (begun ++ 32 ∷ node) (32 ∷ kind) (10 ∷ []) ∙ append_assoc begun (32 ∷ node) (32 ∷ kind ++ 10 ∷ []) in
    told_as _ _ _ _ c.say.result line c.say.ensures

use Rattle.std.proofs.Common.{rules, ◌≡◌, ◌∙◌, ◌++◌, ◌∷◌, [], ℕ, take, get_or, sym, ap}
use Rattle.std.specs.Prelude.{Some, None}
use Rattle.std.specs.List.{filter_map}
use Rattle.std.specs.Option.{option_map}
use Rattle.std.proofs.lemmas.List.{append_assoc}
use Rattle.vh_session.specs.Content.{first_of}
use Rattle.vh_session.proofs.Lists.{none_more, some_more}
use Rattle.vh_session.proofs.finish.add_firsts.Goals as goal

pub loop-param-preserved-in_default : goal.loop-param-preserved-in_default
loop-param-preserved-in_default c =
    let params = c.args.params.now in
    let h = first_of c.args.node c.args.given.now in
    let i = c.loop-param.param-index in
    let d = c.param-item.result in
    let none : c.first_value.result ≡ None = search rules in
    let is : h (get_or params i d) ≡ None = ap h (sym c.param-item.is) ∙ ap (λ o. option_map (λ value. (c.args.node, d.id, value)) o) (sym c.first_value.ensures ∙ none) in
    c.loop-param.invariant ∙ ap (λ ys. c.args.firsts.now.items ++ ys) (sym (none_more h params i d c.loop-param-test.true is))

pub loop-param-preserved : goal.loop-param-preserved
loop-param-preserved c =
    let params = c.args.params.now in
    let old = c.args.firsts.now.items in
    let h = first_of c.args.node c.args.given.now in
    let i = c.loop-param.param-index in
    let d = c.param-item.result in
    let y : ℕ × ℕ × ℕ = (c.args.node, d.id, c.in-Some.value) in
    let some : c.first_value.result ≡ Some c.in-Some.value = search rules in
    let is : h (get_or params i d) ≡ Some y = ap h (sym c.param-item.is) ∙ ap (λ o. option_map (λ value. (c.args.node, d.id, value)) o) (sym c.first_value.ensures ∙ some) in
    let pushed : c.push.new.self.items ≡ c.loop-param.firsts.items ++ y ∷ [] = search rules in
    pushed ∙ ap (λ ys. ys ++ y ∷ []) c.loop-param.invariant ∙ append_assoc old (filter_map h (take i params)) (y ∷ []) ∙ ap (λ ys. old ++ ys) (sym (some_more h params i d y c.loop-param-test.true is))

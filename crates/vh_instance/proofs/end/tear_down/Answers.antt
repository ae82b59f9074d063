use Rattle.std.proofs.Common.{◌≡◌, ℕ, ◌+◌, length, ap, ◌∙◌, arith}
use Rattle.vh_instance.specs.Raised.{raised_times}
use Rattle.vh_instance.proofs.Counting.{raised_both}
use Rattle.vh_instance.proofs.end.tear_down.Goals as goal

pub returns-clause-ended : goal.returns-clause-ended
returns-clause-ended g c =
    let first = length c.args.band.components.items in
    let second = length c.args.band.controllers.items in
    let before = g.S.PluginSet.ended c.args.set.now in
    c.end_controllers.ensures.ended ∙ ap (λ (k : ℕ). raised_times second k) c.end_components.ensures.ended ∙ raised_both second first before ∙ ap (λ (n : ℕ). raised_times n before) (let e : second + first ≡ first + second = omega arith in e)

pub returns-clause-codes : goal.returns-clause-codes
returns-clause-codes g c = λ class. c.end_controllers.ensures.codes class ∙ c.end_components.ensures.codes class

use denote.Exit.{unseen}
use denote.Param.Send.{Quiet-if}
use mir.Syntax.{of_param}
use Rattle.std.proofs.Common.{rules, ◌∙◌, ap}
use Rattle.vh_live.proofs.beside.perform.Goals as goal

pub join_mut-result-requires-after_bounds : goal.join_mut-result-requires-after_bounds
join_mut-result-requires-after_bounds g c κs within =
    let bounds = c.type_bounds in
    (((search rules, search rules, c.requires.waiting), (record { owned = bounds.send-C.owned; leaving = λ k. Quiet-if (k (of_param 1)) unseen unseen (λ x w. tt) (λ x w. tt) }, search rules, search rules, search rules)), (c.requires.begin, ap (λ drain. drain.taken) c.new-takings.ensures ∙ c.requires.untaken))

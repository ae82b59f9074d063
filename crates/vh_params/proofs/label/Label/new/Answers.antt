use Rattle.std.proofs.Common.{length, drop, replicate, ap, ◌∙◌}
use Rattle.std.proofs.lemmas.List.{drop_at, drop-replicate}
use Rattle.vh_params.proofs.label.Label.new.Goals as goal

pub invariant_of-result-clause-clear : goal.invariant_of-result-clause-clear
invariant_of-result-clause-clear c =
    let n = length c.args.text.now in
    drop_at c.copy_from_slice.new.self (drop n (replicate 32 0)) n (ap length c.copy_from_slice.ensures.after) ∙ drop-replicate n 32 0

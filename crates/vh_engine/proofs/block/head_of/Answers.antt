use Rattle.std.proofs.Common.{◌∙◌, ℕ, length, Option, unwrap_or, ap}
use Rattle.vh_engine.proofs.Upto.{upto_found}
use Rattle.vh_engine.proofs.block.head_of.Goals as goal

pub returns-clause-up_to : goal.returns-clause-up_to
returns-clause-up_to c =
    let entries = c.args.entries.now in
    upto_found c.args.first entries c.requires.rising c.unwrap_or.result (c.unwrap_or.ensures ∙ ap (λ (o : Option ℕ). unwrap_or o (length entries)) c.first_behind.ensures)
